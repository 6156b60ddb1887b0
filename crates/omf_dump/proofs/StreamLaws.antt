-- A text that goes to a writer in pieces.
use Rattle.std.proofs.Common.{◌≡◌, ℕ, List, [], ◌++◌, Result, Ok, Err, refl, sym, ap, subst, ◌∙◌, append_assoc}
use Rattle.std.specs.Prelude.{Option}
use Rattle.std.proofs.KnownBytes.{Appends-nil, Appends-trans}
use Rattle.std.specs.Io.KnownBytes.{Appends}
use Rattle.omf_frame.specs.Bytes.{with_before}
use Rattle.omf_frame.specs.Device.{Writes}
use Rattle.omf_frame.specs.Framing.{Raw}
use Rattle.omf_dump.specs.Dump.{dump_text, record_dump}
use Rattle.omf_dump.specs.Inner.Walking.{IsSent, IsWalked}
use Rattle.omf_dump.specs.declared.format.Style.{Style}
use Rattle.omf_dump.specs.declared.known.Known.{Known}

-- something was made, and a piece was sent
pub sent_on : (mid new : Option (List ℕ)) (front kept made shown left : List ℕ) → shown ≡ kept ++ made → (s : IsSent mid new shown left) → (front ++ s.front) ++ left ≡ (front ++ kept) ++ made
sent_on mid new front kept made shown left is s = append_assoc front s.front left ∙ ap (λ (t : List ℕ). front ++ t) (sym s.whole ∙ is) ∙ sym (append_assoc front kept made)

-- a front of the text is written
abbrev pub IsPart : Option (List ℕ) → Option (List ℕ) → List ℕ → Type 0
IsPart old new text = (front : List ℕ) × (back : List ℕ) × (text ≡ front ++ back) × Appends old new front

-- nothing is written
pub none_sent : (old : Option (List ℕ)) (text : List ℕ) → IsPart old old text
none_sent old text = ([], text, refl, Appends-nil old)

-- the walk ended while some of it was kept
pub halted : (f : Style) (records : List Raw) (known : Known) (number start : ℕ) (left : List ℕ) (old new : Option (List ℕ)) (front kept : List ℕ) → Appends old new front
    → IsWalked f records known number start left [] (front ++ kept) → IsPart old new (dump_text f records)
halted f records known number start left old new front kept written w =
    let others : List ℕ = with_before (record_dump f) w.before w.after in
    (front, kept ++ others, sym w.written ∙ append_assoc front kept others, written)

-- the walk ended while a piece was written
pub stopped : (f : Style) (records : List Raw) (known : Known) (number start : ℕ) (left : List ℕ) (old mid new : Option (List ℕ)) (front shown : List ℕ) → Appends old mid front
    → IsWalked f records known number start left [] (front ++ shown) → IsPart mid new shown → IsPart old new (dump_text f records)
stopped f records known number start left old mid new front shown written w p =
    let others : List ℕ = with_before (record_dump f) w.before w.after in
    (front ++ p.0, p.1 ++ others, sym w.written ∙ ap (λ (t : List ℕ). (front ++ t) ++ others) p.2 ∙ regroup front p.0 p.1 others, Appends-trans old mid new front p.0 written p.3)
  where
    regroup : (a b c d : List ℕ) → (a ++ (b ++ c)) ++ d ≡ (a ++ b) ++ (c ++ d)
    regroup a b c d = simp append_assoc

-- what was kept was sent
pub then_sent : {E : Type 0} (old mid new : Option (List ℕ)) (text left : List ℕ) (r : Result (Unit {0}) E) → IsSent old mid text left → Writes mid new r left → Writes old new r text
then_sent old mid new text left (Ok x) s w = subst (Appends old new) (sym s.whole) (Appends-trans old mid new s.front left s.written w)
then_sent old mid new text left (Err e) s w = (s.front ++ w.0, w.1, s.whole ∙ ap (λ (t : List ℕ). s.front ++ t) w.2 ∙ sym (append_assoc s.front w.0 w.1), Appends-trans old mid new s.front w.0 s.written w.3)

-- one text after another
pub then_more : {E : Type 0} (old mid new : Option (List ℕ)) (a b : List ℕ) (r : Result (Unit {0}) E) → Appends old mid a → Writes mid new r b → Writes old new r (a ++ b)
then_more old mid new a b (Ok x) s w = Appends-trans old mid new a b s w
then_more old mid new a b (Err e) s w = (a ++ w.0, w.1, ap (λ (t : List ℕ). a ++ t) w.2 ∙ sym (append_assoc a w.0 w.1), Appends-trans old mid new a w.0 s w.3)

-- the first of two texts failed
pub first_failed : (old new : Option (List ℕ)) (a b : List ℕ) → IsPart old new a → IsPart old new (a ++ b)
first_failed old new a b p = (p.0, p.1 ++ b, ap (λ (t : List ℕ). t ++ b) p.2 ∙ append_assoc p.0 p.1 b, p.3)

-- The lines of the modules of a file, one after another.
use Rattle.std.proofs.Common.{◌≡◌, ℕ, ◌+◌, ◌<◌, List, [], ◌∷◌, ◌++◌, length, Bool, true, false, refl, sym, ap, subst, ◌∙◌, arith, append_assoc}
use Rattle.std.specs.Prelude.{flat_map, ◌||◌, Option}
use Rattle.std.specs.Io.KnownBytes.{Appends}
use Rattle.std.specs.List.{list_any}
use Rattle.std.proofs.KnownBytes.{Appends-trans}
use Rattle.std.proofs.lemmas.List.{append-nil}
use Rattle.omf_frame.specs.Framing.{is_header}
use Rattle.omf_dump.specs.Later.{front_kind}
use Rattle.omf_dump.specs.Library.{Member, Shows, after_module}
use Rattle.omf_dump.specs.Listing.{AreFurther, AreModulesListed, IsListed, first_position, position_head}
use Rattle.omf_dump.specs.declared.format.Listing.{Listing}
use Rattle.omf_dump.specs.declared.position.Position.{Position}
use Rattle.omf_dump.specs.declared.position.Position.TheVariants as position
use Rattle.omf_dump.proofs.LibraryLaws.{any_more, texts_more}

-- the lines of the modules before the rest are written; with those of the rest they are the lines of all
pub record AreDone (l : Listing) (head bytes : List ℕ) (number : ℕ) (rest : List ℕ) (is_refused : Bool) (old now : Option (List ℕ)) : Type 0 where
  pub first : Member
  pub first_is : IsListed l (head ++ position_head l.shape (first_position (after_module bytes)) bytes) bytes first.is_refused first.text
  pub others : List Member
  pub more : (ms : List Member) → AreFurther l head number rest ms → AreFurther l head 1 (after_module bytes) (others ++ ms)
  pub refused : is_refused ≡ list_any (λ m. m.is_refused) (first ∷ others)
  pub written : Appends old now (flat_map (λ m. m.text) (first ∷ others))

alone : (b : Bool) → b ≡ (b || false)
alone true = refl
alone false = refl

-- the first one
pub first_done : (l : Listing) (head bytes rest : List ℕ) (p : Position) (is_refused : Bool) (old new : Option (List ℕ)) → rest ≡ after_module bytes → p ≡ first_position rest
    → Shows old new (IsListed l (head ++ position_head l.shape p bytes) bytes is_refused) → AreDone l head bytes 1 rest is_refused old new
first_done l head bytes rest p is_refused old new r e s =
    let at : p ≡ first_position (after_module bytes) = e ∙ ap (λ (x : List ℕ). first_position x) r in
    let shown = subst (λ (q : Position). Shows old new (IsListed l (head ++ position_head l.shape q bytes) bytes is_refused)) at s in
    record {
      first = record { is_refused = is_refused; text = shown.0 };
      first_is = shown.1;
      others = [];
      more = λ ms h. subst (λ (x : List ℕ). AreFurther l head 1 x ms) r h;
      refused = alone is_refused;
      written = subst (Appends old new) (sym (append-nil shown.0)) shown.2;
    }

-- one more
pub one_done : (l : Listing) (head bytes rest next : List ℕ) (number : ℕ) (is_refused is_faulty either : Bool) (old mid new : Option (List ℕ)) → AreDone l head bytes number rest is_refused old mid
    → is_header (front_kind rest) ≡ true → Shows mid new (IsListed l (head ++ position_head l.shape (position.Module number) rest) rest is_faulty) → next ≡ after_module rest
    → either ≡ (is_refused || is_faulty) → AreDone l head bytes (number + 1) next either old new
one_done l head bytes rest next number is_refused is_faulty either old mid new w h s n b =
    let one : Member = record { is_refused = is_faulty; text = s.0 } in
    let all : List Member = w.first ∷ w.others in
    record {
      first = w.first;
      first_is = w.first_is;
      others = w.others ++ one ∷ [];
      more = λ ms f.
          let further : AreFurther l head number rest (one ∷ ms) = (h, s.1, subst (λ (x : List ℕ). AreFurther l head (number + 1) x ms) n f) in
          subst (AreFurther l head 1 (after_module bytes)) (sym (append_assoc w.others (one ∷ []) ms)) (w.more (one ∷ ms) further);
      refused = b ∙ ap (λ (x : Bool). x || is_faulty) w.refused ∙ sym (any_more all one);
      written = subst (Appends old new) (sym (texts_more all one)) (Appends-trans old mid new (flat_map (λ x. x.text) all) s.0 w.written s.2);
    }

-- and no other
pub all_done : (l : Listing) (head bytes rest : List ℕ) (number : ℕ) (is_refused : Bool) (old new : Option (List ℕ)) → AreDone l head bytes number rest is_refused old new
    → is_header (front_kind rest) ≡ false → Shows old new (AreModulesListed l head bytes is_refused)
all_done l head bytes rest number is_refused old new w h =
    let none : AreFurther l head 1 (after_module bytes) w.others = subst (AreFurther l head 1 (after_module bytes)) (append-nil w.others) (w.more [] h) in (
      flat_map (λ x. x.text) (w.first ∷ w.others),
      record {
        first = w.first;
        first_is = w.first_is;
        others = w.others;
        others_are = none;
        refused = w.refused;
        whole = refl;
      },
      w.written,
    )

-- a header is inside
pub some : (rest : List ℕ) → is_header (front_kind rest) ≡ true → 0 < length rest
some [] h = absurd cc
some (b ∷ rest) h = omega arith

-- Texts that are written in pieces.
use Rattle.std.proofs.Common.{◌≡◌, ℕ, ◌≤◌, List, [], ◌∷◌, ◌++◌, Result, Ok, Err, refl, sym, ap, subst, ◌∙◌, append_assoc, arith, inl, inr, suc, ◌+◌, ◌<◌, length, drop, get_or, map, take, zero, ◌-◌}
use Rattle.std.proofs.KnownBytes.{Appends-nil, Appends-trans}
use Rattle.std.proofs.lemmas.List.{append-nil, drop_all, take_all}
use Rattle.std.proofs.Math.Seq.{drop-cons}
use Rattle.std.specs.Result.{IsErr, IsErrAnd}
use Rattle.std.specs.Io.KnownBytes.{Appends}
use Rattle.std.specs.Prelude.{Option, flat_map}
use Rattle.omf_frame.specs.Device.{Device}
use Rattle.omf_placement.specs.Entries.{in_words}
use Rattle.omf_cmd.specs.FaultLine.{fault_text, fault_words}
use Rattle.omf_cmd.specs.Printed.{line, spaced}
use Rattle.omf_cmd.specs.Runs.{IsUnbroken, IsWritten, PrintsOr}
use Rattle.omf_cmd.specs.declared.fault.RunFault.{RunFault}
use Rattle.omf_cmd.specs.declared.fault.RunFault.TheVariants as fault
use Rattle.omf_cmd.proofs.Pieces.{given_up_later, unbroken_on}

-- ---- texts one after another

-- a front of the text is written, and `left` is the rest; the writer did not break
pub record IsUpTo (old new : Device) (text left : List ℕ) : Type 0 where
  pub front : List ℕ
  pub whole : text ≡ front ++ left
  pub unbroken : IsUnbroken old new
  pub written : Appends old.bytes new.bytes front

-- nothing is written yet
pub begun : (device : Device) (text : List ℕ) → IsUpTo device device text text
begun device text = record { front = []; whole = refl; unbroken = (refl, omega arith); written = Appends-nil device.bytes }

module _ {F : Type 0} (failed : F) (old mid new : Device) (text rest one more : List ℕ) (h : IsUpTo old mid text rest) (parts : rest ≡ one ++ more) where
  -- one more part is written
  pub went_on : PrintsOr failed mid new (Ok one) (Ok tt) → IsUpTo old new text more
  went_on k = record {
    front = h.front ++ one;
    whole = h.whole ∙ ap (λ (t : List ℕ). h.front ++ t) parts ∙ sym (append_assoc h.front one more);
    unbroken = unbroken_on old mid new h.unbroken k.0;
    written = Appends-trans old.bytes mid.bytes new.bytes h.front one h.written k.1;
  }

  part_of : (e : F) → PrintsOr failed mid new (Ok one) (Err e) → PrintsOr failed old new (Ok text) (Err e)
  part_of e k = (
    k.0,
    given_up_later old mid new h.unbroken k.1,
    (
      h.front ++ k.2.0,
      k.2.1 ++ more,
      h.whole ∙ ap (λ (t : List ℕ). h.front ++ t) (parts ∙ ap (λ (t : List ℕ). t ++ more) k.2.2 ∙ append_assoc k.2.0 k.2.1 more) ∙ sym (append_assoc h.front k.2.0 (k.2.1 ++ more)),
      Appends-trans old.bytes mid.bytes new.bytes h.front k.2.0 h.written k.2.3,
    ),
  )

  -- the writer failed in one part
  pub stopped : (e : F) (r : Result (Unit {0}) F) → IsErr r → IsErrAnd r (λ x. x ≡ e) → PrintsOr failed mid new (Ok one) (Err e) → PrintsOr failed old new (Ok text) r
  stopped e (Ok done) is same k = absurd (cc is)
  stopped e (Err x) is same k = part_of x (subst (λ (y : F). PrintsOr failed mid new (Ok one) (Err y)) (sym same) k)

-- all is written
pub all_written : {F : Type 0} (failed : F) (old new : Device) (text left : List ℕ) → IsUpTo old new text left → left ≡ [] → PrintsOr failed old new (Ok text) (Ok tt)
all_written failed old new text left h none =
    let whole : h.front ≡ text = sym (h.whole ∙ ap (λ (t : List ℕ). h.front ++ t) none ∙ append-nil h.front) in
    (h.unbroken, subst (Appends old.bytes new.bytes) whole h.written)

-- the last part is written, or the writer failed in it
pub ended : {F : Type 0} (failed : F) (old mid new : Device) (text one : List ℕ) (r : Result (Unit {0}) F) → IsUpTo old mid text one → PrintsOr failed mid new (Ok one) r → PrintsOr failed old new (Ok text) r
ended failed old mid new text one (Ok done) h k = all_written failed old new text [] (went_on failed old mid new text one one [] h (sym (append-nil one)) k) refl
ended failed old mid new text one (Err e) h k = part_of failed old mid new text one one [] h (sym (append-nil one)) e k

-- ---- items

-- the text of the items from one on
pub next_item : {A : Type 0} (f : A → List ℕ) (xs : List A) (i : ℕ) (other : A) → i < length xs → flat_map f (drop i xs) ≡ f (get_or xs i other) ++ flat_map f (drop (i + 1) xs)
next_item f xs i other low =
    let after : suc i ≡ i + 1 = omega arith in
    ap (flat_map f) (drop-cons xs i other low) ∙ ap (λ (n : ℕ). f (get_or xs i other) ++ flat_map f (drop n xs)) after

pub next_mapped : {A B : Type 0} (f : A → List ℕ) (of : B → A) (xs : List B) (i : ℕ) (other : B) → i < length xs → flat_map f (map of (drop i xs)) ≡ f (of (get_or xs i other)) ++ flat_map f (map of (drop (i + 1) xs))
next_mapped f of xs i other low =
    let after : suc i ≡ i + 1 = omega arith in
    ap (λ ys. flat_map f (map of ys)) (drop-cons xs i other low) ∙ ap (λ (n : ℕ). f (of (get_or xs i other)) ++ flat_map f (map of (drop n xs))) after

-- after the last item there is none
pub no_item : {A : Type 0} (f : A → List ℕ) (xs : List A) (i : ℕ) → length xs ≤ i → flat_map f (drop i xs) ≡ []
no_item f xs i le = ap (flat_map f) (drop_all i xs le)

-- ---- words

more_words : (w v : List ℕ) (ws : List (List ℕ)) → line (w ∷ v ∷ ws) ≡ spaced w ++ line (v ∷ ws)
more_words w v ws = append_assoc w (32 ∷ in_words (v ∷ ws)) (10 ∷ []) ∙ sym (append_assoc w (32 ∷ []) (line (v ∷ ws)))

-- a line is its words but the last, each with a space after it, and the line of the last
line_by : {A : Type 0} (of : A → List ℕ) (xs : List A) (n : ℕ) (other : A) → length xs ≡ suc n → line (map of xs) ≡ flat_map spaced (map of (take n xs)) ++ line (of (get_or xs n other) ∷ [])
line_by of [] n other e = absurd (omega (arith, e))
line_by of (x ∷ []) zero other e = refl
line_by of (x ∷ []) (suc n) other e = absurd (omega (arith, e))
line_by of (x ∷ y ∷ xs) zero other e = absurd (omega (arith, e))
line_by of (x ∷ y ∷ xs) (suc n) other e =
    let rest : length (y ∷ xs) ≡ suc n = omega (arith, e) in
    more_words (of x) (of y) (map of xs) ∙ ap (λ (t : List ℕ). spaced (of x) ++ t) (line_by of (y ∷ xs) n other rest)
    ∙ sym (append_assoc (spaced (of x)) (flat_map spaced (map of (take n (y ∷ xs)))) (line (of (get_or (y ∷ xs) n other) ∷ [])))

pub last_word : {A : Type 0} (of : A → List ℕ) (xs : List A) (other : A) → 1 ≤ length xs → line (map of xs) ≡ flat_map spaced (map of (take (length xs - 1) xs)) ++ line (of (get_or xs (length xs - 1) other) ∷ [])
last_word of xs other some = line_by of xs (length xs - 1) other (omega (arith, some))

-- its words but the last are a front of it
pub but_last : {A : Type 0} (of : A → List ℕ) (xs : List A) → 1 ≤ length xs → (last : List ℕ) × (line (map of xs) ≡ flat_map spaced (map of (take (length xs - 1) xs)) ++ last)
but_last of [] some = absurd (omega (arith, some))
but_last of (x ∷ xs) some = (_, last_word of (x ∷ xs) x some)

-- a line is the words at its front, each with a space after it, and the line of the others
pub front_words : (front : List (List ℕ)) (w : List ℕ) (ws : List (List ℕ)) → line (front ++ w ∷ ws) ≡ flat_map spaced front ++ line (w ∷ ws)
front_words [] w ws = refl
front_words (v ∷ []) w ws = more_words v w ws ∙ ap (λ (t : List ℕ). t ++ line (w ∷ ws)) (sym (append-nil (spaced v)))
front_words (v ∷ u ∷ vs) w ws =
    more_words v u (vs ++ w ∷ ws) ∙ ap (λ (t : List ℕ). spaced v ++ t) (front_words (u ∷ vs) w ws) ∙ sym (append_assoc (spaced v) (flat_map spaced (u ∷ vs)) (line (w ∷ ws)))

-- ---- a text after another

-- the first is written, and the second or a part of it
pub then_text : {F : Type 0} (failed : F) (old mid new : Device) (a b : List ℕ) → PrintsOr failed old mid (Ok a) (Ok tt) → IsWritten mid new b → IsWritten old new (a ++ b)
then_text failed old mid new a b h (inl w) = inl (unbroken_on old mid new h.0 w.0, Appends-trans old.bytes mid.bytes new.bytes a b h.1 w.1)
then_text failed old mid new a b h (inr w) = inr (
  given_up_later old mid new h.0 w.0,
  (a ++ w.1.0, w.1.1, ap (λ (t : List ℕ). a ++ t) w.1.2 ∙ sym (append_assoc a w.1.0 w.1.1), Appends-trans old.bytes mid.bytes new.bytes a w.1.0 h.1 w.1.3),
)

-- a part of the first is written
pub cut_text : {F : Type 0} (failed : F) (old new : Device) (a b : List ℕ) (e : F) → PrintsOr failed old new (Ok a) (Err e) → IsWritten old new (a ++ b)
cut_text failed old new a b e h = inr (h.1, (h.2.0, h.2.1 ++ b, ap (λ (t : List ℕ). t ++ b) h.2.2 ∙ append_assoc h.2.0 h.2.1 b, h.2.3))

-- the first word, and then each with a space before it
pub first_word : {A : Type 0} (of : A → List ℕ) (x : A) (xs : List A) → in_words (map of (x ∷ xs)) ≡ of x ++ flat_map (λ y. 32 ∷ of y) xs
first_word of x [] = sym (append-nil (of x))
first_word of x (y ∷ xs) = ap (λ (t : List ℕ). of x ++ 32 ∷ t) (first_word of y xs)

-- the words but the last, and the line of the last
pub begun_line : {A : Type 0} (of : A → List ℕ) (xs : List A) (other : A) (device : Device) → 1 ≤ length xs
    → IsUpTo device device (line (map of xs)) (flat_map spaced (map of (take (length xs - 1) xs)) ++ line (of (get_or xs (length xs - 1) other) ∷ []))
begun_line of xs other device some = subst (IsUpTo device device (line (map of xs))) (last_word of xs other some) (begun device (line (map of xs)))

pub next_word : {A : Type 0} (of : A → List ℕ) (xs : List A) (i : ℕ) (other : A) (end : List ℕ) → i < length xs
    → flat_map spaced (map of (drop i xs)) ++ end ≡ spaced (of (get_or xs i other)) ++ (flat_map spaced (map of (drop (i + 1) xs)) ++ end)
next_word of xs i other end low = ap (λ (t : List ℕ). t ++ end) (next_mapped spaced of xs i other low) ∙ append_assoc (spaced (of (get_or xs i other))) (flat_map spaced (map of (drop (i + 1) xs))) end

pub no_word : {A : Type 0} (of : A → List ℕ) (xs : List A) (i : ℕ) (end : List ℕ) → length xs ≤ i → flat_map spaced (map of (drop i xs)) ++ end ≡ end
no_word of xs i end le = ap (λ ys. flat_map spaced (map of ys) ++ end) (drop_all i xs le)

-- the first word, and each of the others after a space
pub words_joined : {A : Type 0} (of : A → List ℕ) (xs : List A) (other : A) → 1 ≤ length xs → of (get_or xs 0 other) ++ flat_map (λ y. 32 ∷ of y) (take (length xs - 1) (drop 1 xs)) ≡ in_words (map of xs)
words_joined of [] other some = absurd (omega (arith, some))
words_joined of (x ∷ xs) other some = ap (λ ys. of x ++ flat_map (λ y. 32 ∷ of y) ys) (take_all (length (x ∷ xs) - 1) xs (omega arith)) ∙ sym (first_word of x xs)

-- ---- a fault

-- the text of a fault but for that of the writer
pub printed_text : (f : RunFault) → (f ≡ fault.Write → ⊥) → line (fault_words f) ≡ fault_text f
printed_text fault.Memory other = refl
printed_text fault.Read other = refl
printed_text fault.Write other = absurd (other refl)
printed_text (fault.Refused why at) other = refl
printed_text (fault.Line n) other = refl
printed_text fault.TooLong other = refl
printed_text (fault.Reach f) other = refl

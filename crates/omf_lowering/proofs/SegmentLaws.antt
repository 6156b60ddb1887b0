-- The first index that is past the module's segments.
use Rattle.std.proofs.Common.{◌≡◌, ℕ, Bool, true, false, cond, List, [], ◌∷◌, ◌++◌, Option, Some, None, refl, sym, ap, ◌∙◌}
use Rattle.std.specs.Prelude.{option_map, ◌||◌}
use Rattle.std.specs.List.{find, list_any}
use Rattle.omf_frame.specs.Fault.{Fault}
use Rattle.omf_frame.specs.declared.fault.Reason.TheVariants as reason
use Rattle.omf_records.specs.Layout.{fault}
use Rattle.omf_records.specs.Values.{At, Reference, frame_bits, target_bits}
use Rattle.omf_lowering.specs.Segments.{first_past, in_reference, is_past, of_segment}

abbrev fault_of_index : At ℕ → Fault
fault_of_index index = fault index.within reason.UndefinedSegment

-- of indices before others
found_first : (count : ℕ) (xs ys : List (At ℕ)) (e : Fault) → first_past count xs ≡ Some e → first_past count (xs ++ ys) ≡ Some e
found_first count [] ys e h = absurd cc
found_first count (x ∷ xs) ys e h = by (is_past count x) h (found_first count xs ys e)
  where
    by : (b : Bool) → option_map fault_of_index (cond b (Some x) (find (is_past count) xs)) ≡ Some e → (first_past count xs ≡ Some e → first_past count (xs ++ ys) ≡ Some e)
        → option_map fault_of_index (cond b (Some x) (find (is_past count) (xs ++ ys))) ≡ Some e
    by true h more = h
    by false h more = more h

found_later : (count : ℕ) (xs ys : List (At ℕ)) → first_past count xs ≡ None → first_past count (xs ++ ys) ≡ first_past count ys
found_later count [] ys h = refl
found_later count (x ∷ xs) ys h = by (is_past count x) h (found_later count xs ys)
  where
    by : (b : Bool) → option_map fault_of_index (cond b (Some x) (find (is_past count) xs)) ≡ None → (first_past count xs ≡ None → first_past count (xs ++ ys) ≡ first_past count ys)
        → option_map fault_of_index (cond b (Some x) (find (is_past count) (xs ++ ys))) ≡ first_past count ys
    by true h more = absurd cc
    by false h more = more h

-- of the indices that are left, where the first of them are of one item
pub some_first : (count : ℕ) (xs ys left : List (At ℕ)) (e : Fault) (all : Option Fault) → first_past count xs ≡ Some e → left ≡ xs ++ ys → first_past count left ≡ all → Some e ≡ all
some_first count xs ys left e all h is whole = sym (ap (first_past count) is ∙ found_first count xs ys e h) ∙ whole

pub none_first : (count : ℕ) (xs ys left : List (At ℕ)) (all : Option Fault) → first_past count xs ≡ None → left ≡ xs ++ ys → first_past count left ≡ all → first_past count ys ≡ all
none_first count xs ys left all h is whole = sym (ap (first_past count) is ∙ found_later count xs ys h) ∙ whole

-- of a reference
pub frame_found : (count : ℕ) (r : Reference) (e : Fault) → first_past count (of_segment (frame_bits r.fix.item) r.frame) ≡ Some e → Some e ≡ first_past count (in_reference r)
frame_found count r e h = sym (found_first count (of_segment (frame_bits r.fix.item) r.frame) (of_segment (target_bits r.fix.item) r.target) e h)

pub target_left : (count : ℕ) (r : Reference) → first_past count (of_segment (frame_bits r.fix.item) r.frame) ≡ None → first_past count (of_segment (target_bits r.fix.item) r.target) ≡ first_past count (in_reference r)
target_left count r h = sym (found_later count (of_segment (frame_bits r.fix.item) r.frame) (of_segment (target_bits r.fix.item) r.target) h)

-- whether one of the items that are left passes a test
pub any_here : {A : Type 0} (test : A → Bool) (x : A) (rest left : List A) (all : Bool) → left ≡ x ∷ rest → test x ≡ true → list_any test left ≡ all → true ≡ all
any_here test x rest left all is h whole = sym (ap (list_any test) is ∙ ap (λ b. b || list_any test rest) h) ∙ whole

pub any_later : {A : Type 0} (test : A → Bool) (x : A) (rest left : List A) (all : Bool) → left ≡ x ∷ rest → test x ≡ false → list_any test left ≡ all → list_any test rest ≡ all
any_later test x rest left all is h whole = sym (ap (list_any test) is ∙ ap (λ b. b || list_any test rest) h) ∙ whole

-- Lists gathered record by record, item by item.
use Rattle.std.proofs.Common.{◌≡◌, ℕ, ◌+◌, List, [], ◌∷◌, ◌++◌, length, refl, sym, ap, ◌∙◌, append-nil, append_assoc}
use Rattle.std.specs.Prelude.{flat_map}
use Rattle.omf_frame.specs.Framing.{Raw, raw_bytes}
use Rattle.omf_frame.specs.declared.fault.Place.{Place}
use Rattle.omf_records.specs.Inner.Reading.{typed}
use Rattle.omf_records.specs.Values.{Rec, Contents}
use Rattle.omf_check.specs.Listed.{placed_from}
use Rattle.omf_check.specs.WellFormed.{recs}

-- What numbered records give.
abbrev pub given_by : {A : Type 0} → (Contents → List A) → List (Place × Rec) → List A
given_by f xs = flat_map (λ x. f x.1.contents) xs

abbrev pub given_of : {A : Type 0} → (Contents → List A) → List Rec → List A
given_of f m = flat_map (λ r. f r.contents) m

pub given-all : {A : Type 0} (f : Contents → List A) (number start : ℕ) (rs : List Raw) → given_by f (placed_from number start rs) ≡ given_of f (recs rs)
given-all f number start [] = refl
given-all f number start (r ∷ rs) = ap (λ xs. f (typed r).contents ++ xs) (given-all f (number + 1) (start + length (raw_bytes r)) rs)

-- One more part at the end.
pub more-given : {A : Type 0} (old new part rest left all : List A) → new ≡ old ++ part → left ≡ part ++ rest → old ++ left ≡ all → new ++ rest ≡ all
more-given old new part rest left all e f h = ap (λ xs. xs ++ rest) e ∙ append_assoc old part rest ∙ ap (λ xs. old ++ xs) (sym f) ∙ h

pub all-given : {A : Type 0} (old left all : List A) → left ≡ [] → old ++ left ≡ all → old ≡ all
all-given old left all e h = sym (append-nil old) ∙ ap (λ xs. old ++ xs) (sym e) ∙ h

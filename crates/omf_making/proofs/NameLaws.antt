-- Names gathered record by record, item by item.
use Rattle.std.proofs.Common.{◌≡◌, ℕ, ◌+◌, Bool, false, List, [], ◌∷◌, ◌++◌, length, map, refl, sym, ap, ap₂, ◌∙◌, append-nil, append_assoc}
use Rattle.std.specs.Prelude.{is_some}
use Rattle.omf_frame.specs.Framing.{Raw, raw_bytes}
use Rattle.omf_frame.specs.declared.fault.Place.{Place}
use Rattle.omf_records.specs.Inner.Reading.{typed}
use Rattle.omf_records.specs.Values.{Rec}
use Rattle.omf_check.specs.Listed.{placed_from}
use Rattle.omf_check.specs.WellFormed.{recs}
use Rattle.omf_lowering.specs.Marks.{selection_by}
use Rattle.omf_making.specs.Names.{Defined, defined_as, defined_by, is_before_mark, recorded_names}

-- What numbered records are.
abbrev pub in_order : List (Place × Rec) → List Rec
in_order xs = map (λ x. x.1) xs

pub all_in_order : (number start : ℕ) (rs : List Raw) → in_order (placed_from number start rs) ≡ recs rs
all_in_order number start [] = refl
all_in_order number start (r ∷ rs) = ap (λ xs. typed r ∷ xs) (all_in_order (number + 1) (start + length (raw_bytes r)) rs)

-- One more part at the end.
pub more_given : {A : Type 0} (old new part rest left all : List A) → new ≡ old ++ part → left ≡ part ++ rest → old ++ left ≡ all → new ++ rest ≡ all
more_given old new part rest left all e f h = ap (λ xs. xs ++ rest) e ∙ append_assoc old part rest ∙ ap (λ xs. old ++ xs) (sym f) ∙ h

pub all_given : {A : Type 0} (old left all : List A) → left ≡ [] → old ++ left ≡ all → old ≡ all
all_given old left all e h = sym (append-nil old) ∙ ap (λ xs. old ++ xs) (sym e) ∙ h

-- What is defined by the last record, whose names these are, and by those that are left.
abbrev pub defined_from : List Defined → List Rec → List Defined
defined_from last left = map (defined_as (is_before_mark left)) last ++ recorded_names left

pub next_given : (old new last next all : List Defined) (left rest : List Rec) (r : Rec) (marked : Bool) → left ≡ r ∷ rest → marked ≡ is_some (selection_by r.contents) → new ≡ old ++ map (defined_as marked) last → next ≡ defined_by r
    → old ++ defined_from last left ≡ all → new ++ defined_from next rest ≡ all
next_given old new last next all left rest r marked e m n d h =
    let own : defined_from last left ≡ map (defined_as marked) last ++ defined_from next rest
    = ap (defined_from last) e ∙ ap₂ (λ b ds. map (defined_as b) last ++ defined_from ds rest) (sym m) (sym d) in
    more_given old new (map (defined_as marked) last) (defined_from next rest) (defined_from last left) all n own h

pub last_given : (old new last all : List Defined) (left : List Rec) → left ≡ [] → new ≡ old ++ map (defined_as false) last → old ++ defined_from last left ≡ all → new ≡ all
last_given old new last all left e n h = n ∙ ap (λ ds. old ++ ds) (sym (append-nil (map (defined_as false) last)) ∙ sym (ap (defined_from last) e)) ∙ h

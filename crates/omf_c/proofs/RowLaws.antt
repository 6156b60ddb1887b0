-- The rows of the records that are left, and where those records start.
use Rattle.std.proofs.Common.{◌≡◌, ℕ, ◌+◌, ◌^◌, ◌≤◌, List, [], ◌∷◌, ◌++◌, sym, ap, ◌∙◌, arith, length, length-append, append_assoc}
use Rattle.std.specs.Prelude.{⊤, flat_map}
use Rattle.omf_frame.specs.Framing.{Raw, raw_bytes}
use Rattle.omf_frame.specs.declared.fault.Place.{Place}
use Rattle.omf_records.specs.Values.{Rec}
use Rattle.omf_check.specs.Listed.{placed_from}

-- each of these records starts at this offset or below
abbrev pub StartBelow : ℕ → List (Place × Rec) → Type 0
StartBelow most [] = ⊤
StartBelow most (x ∷ xs) = (x.0.start ≤ most) × StartBelow most xs

-- records start inside their bytes
pub start_below : (number start most : ℕ) (rs : List Raw) → start + length (flat_map raw_bytes rs) ≤ most → StartBelow most (placed_from number start rs)
start_below number start most [] low = tt
start_below number start most (r ∷ rs) low =
    let size : length (flat_map raw_bytes (r ∷ rs)) ≡ length (raw_bytes r) + length (flat_map raw_bytes rs) = length-append (raw_bytes r) (flat_map raw_bytes rs) in
    let here : start ≤ most = omega (arith, low) in
    let rest : start + length (raw_bytes r) + length (flat_map raw_bytes rs) ≤ most = omega (arith, low, size) in
    (here, start_below (number + 1) (start + length (raw_bytes r)) most rs rest)

-- the rows of an item are there, and those of the items after it are to come
pub rows_due : {A B : Type 0} (f : A → List B) (x : A) (all left : List A) (now due : List B) → all ≡ x ∷ left → due ≡ now ++ f x → due ++ flat_map f left ≡ now ++ flat_map f all
rows_due f x all left now due e is = ap (λ t. t ++ flat_map f left) is ∙ append_assoc now (f x) (flat_map f left) ∙ ap (λ l. now ++ flat_map f l) (sym e)

-- Page sizes with which a library would have too many pages.
use Rattle.std.proofs.Common.{◌≡◌, ℕ, ◌+◌, ◌<◌, ◌≤◌, ◌==◌, inl, inr, true, List, [], ◌∷◌, length, subst, arith}
use Rattle.std.specs.Prelude.{slice_index_or}
use Rattle.std.specs.Int.{div_ceil}
use Rattle.std.specs.List.{AllByRecursion}
use Rattle.std.proofs.lemmas.Bool.{eqb-true, or_cases}
use Rattle.omf_frame.specs.Bytes.{is_one_of}
use Rattle.omf_making.specs.Made.{pages_of}
use Rattle.omf_making.specs.declared.making.Part.{Part}

one_page : (page : ℕ) (parts : List Part) → 1 ≤ pages_of page parts
one_page page [] = omega arith
one_page page (p ∷ ps) = let e = one_page page ps in omega (arith, e)

-- A module takes more pages than are left.
pub too_many : (page left pages : ℕ) (parts others : List Part) (part : Part) → pages_of page parts + left ≡ 65535 + (div_ceil (length part.bytes.items) page + pages_of page others)
    → pages ≡ div_ceil (length part.bytes.items) page → left < pages → 65536 < pages_of page parts
too_many page left pages parts others part e p l = let one = one_page page others in omega (arith, e, p, l, one)

-- The same of the first of the modules that are left.
pub too_many_at : (page left pages : ℕ) (parts rest : List Part) (d : Part) → 1 ≤ length rest → pages_of page parts + left ≡ 65535 + pages_of page rest
    → pages ≡ div_ceil (length (slice_index_or rest 0 d).bytes.items) page → left < pages → 65536 < pages_of page parts
too_many_at page left pages parts [] d low e p l = omega (arith, low)
too_many_at page left pages parts (x ∷ xs) d low e p l = too_many page left pages parts xs x e p l

-- What holds of all sizes, holds of each.
pub of_all : (P : ℕ → Type 0) (sizes : List ℕ) (size : ℕ) → is_one_of sizes size ≡ true → AllByRecursion P sizes → P size
of_all P [] size e h = absurd cc
of_all P (x ∷ xs) size e h = elim (or_cases (x == size) (is_one_of xs size) e) [
  | inl b ↦ subst P (eqb-true x size b) h.0
  | inr b ↦ of_all P xs size b h.1
]

-- Numbers with leading zeros.
use Rattle.std.proofs.Common.{◌≡◌, ℕ, ◌-◌, ◌^◌, List, [], ◌++◌, length, false, refl, arith}
use Rattle.std.proofs.lemmas.List.{append-nil}
use Rattle.std.specs.Prelude.{replicate}
use Rattle.std.specs.Fmt.{padded_integral, char_count, format_spec}

-- a number with leading zeros up to a width
pub zeros_first : (k : ℕ) (ds : List ℕ) → padded_integral (format_spec 32 0 4 k (2 ^ 64 - 1)) false [] ds ≡ replicate (k - length ds) 48 ++ ds
unfolding padded_integral char_count
zeros_first k ds = let e : k - length ds - 0 - 0 ≡ k - length ds = omega arith in rw (append-nil ds, e) refl

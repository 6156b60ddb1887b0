-- The fixups of one joined FIXUPP, cut into groups. Each group becomes a record of at most 1,024 bytes in all.
use Rattle.std.specs.Prelude.{◌≡◌, ℕ, ◌<◌, ◌≤◌, List, [], ◌∷◌, ◌++◌, length, flat_map, sum_by, All, nat_le, if◌then◌else◌}
use Rattle.omf_reloc.specs.Plain.{PlainFixup}
use Rattle.omf_canon.specs.PlainBytes.{fixup_bytes}

-- The most bytes of contents: 1,024 less the type byte, the two length bytes and the checksum byte.
abbrev pub body_limit : ℕ
body_limit = 1020

abbrev pub fixups_size : ℕ → List PlainFixup → ℕ
fixups_size kind fs = sum_by (λ f. length (fixup_bytes kind f)) fs

-- A greedy cut: the groups together are the fixups in order, no group is empty, each fits, and none fits with the first fixup of the next.
pub record IsGreedyCut (kind : ℕ) (fixups : List PlainFixup) (groups : List (List PlainFixup)) : Type 0 where
  pub whole : fixups ≡ flat_map (λ g. g) groups
  pub full : All (λ g. 0 < length g) groups
  pub fits : All (λ g. fixups_size kind g ≤ body_limit) groups
  pub greedy : (front back : List (List PlainFixup)) (g fs : List PlainFixup) (f : PlainFixup)
      → groups ≡ front ++ g ∷ (f ∷ fs) ∷ back → body_limit < fixups_size kind (g ++ f ∷ [])

-- Each group takes the next fixup if it still fits.
abbrev pub cut_from : ℕ → List PlainFixup → List PlainFixup → List (List PlainFixup)
cut_from kind group [] = group ∷ []
cut_from kind group (f ∷ fs) = if nat_le (sum_by (λ g. length (fixup_bytes kind g)) (group ++ f ∷ [])) body_limit then cut_from kind (group ++ f ∷ []) fs else group ∷ cut_from kind (f ∷ []) fs

abbrev pub cut : ℕ → List PlainFixup → List (List PlainFixup)
cut kind [] = []
cut kind (f ∷ fs) = cut_from kind (f ∷ []) fs

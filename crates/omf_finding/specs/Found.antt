-- A module is in a program at a placement.
use Rattle.std.specs.Prelude.{◌≡◌, ℕ, ◌+◌, ◌-◌, List, [], ◌∷◌, ◌++◌, nat_le, nat_lt, false, Option, Some, None, IsSome, slice_get, if◌then◌else◌}
use Rattle.std.specs.List.{list_all}
use Rattle.std.specs.Option.{option_and_then}
use Rattle.omf_frame.specs.Bytes.{is_one_of}
use Rattle.omf_records.specs.Values.{Rec}
use Rattle.omf_image.specs.Limits.{profile_limits}
use Rattle.omf_check.specs.Tables.{entry}
use Rattle.omf_placement.specs.Placement.{Places}
use Rattle.omf_reloc.specs.Image.{image}
use Rattle.omf_reloc.specs.Reach.{Reaches}

-- The byte of a program at an address, if the program has that address. Its first byte is at `base`.
abbrev pub program_byte : List ℕ → ℕ → ℕ → Option ℕ
program_byte program base address = if nat_le base address then slice_get program (address - base) else None

-- The byte of a program at the address of offset x of a segment: that of the segment's entry, and x.
abbrev pub byte_there : Places → List ℕ → ℕ → ℕ → ℕ → Option ℕ
byte_there pl program base segment x = option_and_then (λ p. program_byte program base (p.address + x)) (entry pl.segments segment)

-- Indices in ascending order, with one more if it is greater than all.
abbrev pub with_index : List ℕ → ℕ → List ℕ
with_index ns n = if list_all (λ k. nat_lt k n) ns then ns ++ n ∷ [] else ns

-- The placement reaches, and each byte of the image is the program's at its address, but for the segments that are named as absent: a
-- linker may leave out what nothing refers to.
pub record IsFound (m : List Rec) (pl : Places) (absent program : List ℕ) (base : ℕ) : Type 0 where
  pub reaches : Reaches pl m
  pub bytes : (segment x b : ℕ) → is_one_of absent segment ≡ false → image profile_limits pl m segment x ≡ Some b → byte_there pl program base segment x ≡ Some b

-- The same, and some byte is compared: the image has one in a segment that is not absent.
pub record IsFoundInPart (m : List Rec) (pl : Places) (absent program : List ℕ) (base : ℕ) : Type 0 where
  pub found : IsFound m pl absent program base
  pub segment : ℕ
  pub compared : is_one_of absent segment ≡ false
  pub x : ℕ
  pub byte : IsSome (image profile_limits pl m segment x)

-- The key of a module: its canonical bytes. A build may go by keys in place of the modules' own bytes.
use Rattle.std.specs.Prelude.{◌≡◌, ℕ, List, map, nat_le, if◌then◌else◌}
use Rattle.std.specs.List.{AllZip}
use Rattle.omf_records.specs.Values.{Rec, GroupItem, alone, nowhere, unplaced}
use Rattle.omf_image.specs.Limits.{profile_limits}
use Rattle.omf_check.specs.Module.{Module, recs_of, records_in}
use Rattle.omf_check.specs.WellFormed.{IsWellFormed}
use Rattle.omf_reloc.specs.Plain.{Piece, Kept, Fixed, End}
-- computed: fixups_stand_alone of omf_canon.
use Rattle.omf_reloc.specs.Inner.Pieces.{single_pieces}
use Rattle.omf_canon.specs.Canonical.{canonical}
use Rattle.omf_canon.specs.Skeleton.{normal}

abbrev pub key : Module → List ℕ
key m = canonical (recs_of m.bytes)

-- A module is accepted under its profile.
abbrev pub IsAcceptedModule : Module → Type 0
IsAcceptedModule m = IsWellFormed m.profile profile_limits m.bytes (records_in m.bytes)

-- Both modules are accepted, and have the same key.
pub record HaveOneKey (m n : Module) : Type 0 where
  pub first : IsAcceptedModule m
  pub second : IsAcceptedModule n
  pub keys : key m ≡ key n

-- As many modules as others, and one by one they have the same key.
abbrev pub HaveEqualKeys : List Module → List Module → Type 0
HaveEqualKeys ms ns = AllZip HaveOneKey ms ns

-- The pieces of a module with each fixup alone, without their places and without ignored bits.
abbrev pub bare_pieces : List Rec → List Piece
bare_pieces m = map normal (single_pieces m)

-- The same, where a module type byte shows only whether its module is a main one (TIS OMF 1.1, "MODEND": bit 7).
abbrev pub main_bit : ℕ → ℕ
main_bit byte = if nat_le 128 byte then 128 else 0

abbrev pub with_main : Piece → Piece
with_main (Kept r) = Kept (alone r)
with_main (Fixed kind fixups) = Fixed kind fixups
with_main (End kind byte start) = End kind (main_bit byte) start

abbrev pub main_pieces : List Rec → List Piece
main_pieces m = map with_main (single_pieces m)

-- A group without the places in its record.
abbrev pub bare_group : GroupItem → GroupItem
bare_group g = record { name = unplaced g.name; members = map (λ m. nowhere (unplaced m.item)) g.members }

-- Two modules have the same pieces, but for their places.
abbrev pub AreAlike : List Rec → List Rec → Type 0
AreAlike m n = bare_pieces m ≡ bare_pieces n

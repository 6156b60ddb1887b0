-- The segments of modules at their placements (this profile's rule).
use Rattle.std.specs.Prelude.{ℕ, List, map, flat_map, zip, Bool, ◌==◌, Option, option_map, unwrap_or}
use Rattle.std.specs.List.{enumerate_from}
use Rattle.omf_records.specs.Values.{Rec, combination}
use Rattle.omf_check.specs.Tables.{attributes, entry}
use Rattle.omf_placement.specs.Derive.{PlacedModule}
use Rattle.omf_placement.specs.declared.frame.Placed.{Placed}
use Rattle.omf_image.specs.Limits.{profile_limits}
use Rattle.omf_image.specs.Overlay.{byte_at}
use Rattle.omf_linking.specs.Space.Segments.{SegmentAt}
use Rattle.omf_placement.specs.Placement.{Places}
use Rattle.omf_reloc.specs.Image.{image}
use Rattle.omf_linking.specs.declared.relocated.Relocated.{Relocated}

-- A segment is common if the combination of its SEGDEF is 6 (TIS OMF 1.1, "SEGDEF", C field).
abbrev pub is_common : ℕ → Bool
is_common attribute = combination attribute == 6

-- Whether each segment of a module is common, in index order.
abbrev pub commons : List Rec → List Bool
commons m = map is_common (attributes m)

-- The bytes of an image, by segments and offsets.
abbrev pub Bytes : Type 0
Bytes = ℕ → ℕ → Option ℕ

-- A module at its placement, and the bytes of its image there.
abbrev pub ModuleBytes : Type 0
ModuleBytes = PlacedModule × Bytes

-- The address of a segment; 0 if it has no place, and then its module does not reach.
abbrev pub address_in : List Placed → ℕ → ℕ
address_in places i = unwrap_or (option_map (λ p. p.address) (entry places i)) 0

-- A segment of module j, by its index and whether it is common: it is at its place in the placement, with its bytes in the image.
abbrev pub module_segment : ℕ → Places → Bytes → ℕ × Bool → SegmentAt
module_segment j pl bytes s = record {
  owner = record { «module» = j; segment = s.0 };
  common = s.1;
  address = address_in pl.segments s.0;
  byte = bytes s.0;
}

-- The segments of a module, counted from 1, and those of all modules, counted from 0.
abbrev pub module_segments : ℕ × ModuleBytes → List SegmentAt
module_segments m = map (module_segment m.0 m.1.0.1 m.1.1) (enumerate_from 1 (commons m.1.0.0))

abbrev pub all_segments : List ModuleBytes → List SegmentAt
all_segments ms = flat_map module_segments (enumerate_from 0 ms)

-- Modules with the bytes of these images; and at the placements where their bytes are stored, with those of their images where they run.
abbrev pub image_bytes : Relocated → Bytes
image_bytes r = byte_at r.image

abbrev pub with_images : List PlacedModule → List Relocated → List ModuleBytes
with_images ms rs = zip ms (map image_bytes rs)

abbrev pub stored_image : PlacedModule × Places → ModuleBytes
stored_image x = ((x.0.0, x.1), image profile_limits x.0.1 x.0.0)

abbrev pub stored_images : List PlacedModule → List Places → List ModuleBytes
stored_images ms stored = map stored_image (zip ms stored)

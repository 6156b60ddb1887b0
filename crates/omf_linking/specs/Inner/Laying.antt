-- Stretches as pieces of an image with the addresses of memory as the offsets of segment 0 (the steps of the code).
use Rattle.std.specs.Prelude.{List, map, length, Bool, not, ◌&&◌, Option, Some, None, option_map, find, if◌then◌else◌}
use Rattle.omf_image.specs.Overlay.{Laid}
use Rattle.omf_image.specs.declared.painting.Extent.{Extent}
use Rattle.omf_linking.specs.declared.space.stretch.Owner.{Owner}
use Rattle.omf_linking.specs.declared.space.stretch.Stretch.{Stretch}
use Rattle.omf_linking.specs.Space.Memory.{Share, overlap}

abbrev pub laid_piece : Stretch → Laid
laid_piece s = record { segment = 0; offset = s.address; bytes = s.bytes.now }

abbrev pub laid_pieces : List Stretch → List Laid
laid_pieces ss = map laid_piece ss

abbrev pub extent_in : Stretch → Extent
extent_in s = record { segment = 0; first = s.address; len = length s.bytes.now }

abbrev pub extents_in : List Stretch → List Extent
extents_in ss = map extent_in ss

-- The first two that may not share an address, if the first may be known already.
abbrev pub overlap_with : Option (Owner × Bool) → List Share → Option (Owner × Owner)
overlap_with None ss = overlap ss
overlap_with (Some o) ss = option_map (λ t. (o.0, t.owner)) (find (λ t. not (o.1 && t.common)) ss)

-- The two, if one more segment may not share the address with the known one.
abbrev pub excluded : Option (Owner × Bool) → Owner → Bool → Option (Owner × Owner)
excluded None owner common = None
excluded (Some o) owner common = if o.1 && common then None else Some (o.0, owner)

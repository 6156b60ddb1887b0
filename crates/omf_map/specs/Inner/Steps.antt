-- The steps of printing a map: the lines of a part of it for a module.
use Rattle.std.specs.Prelude.{ℕ, List}
use Rattle.omf_map.specs.Addresses.{AddressedModule}
use Rattle.omf_map.specs.MapText.{segment_lines, public_lines, external_lines}
use Rattle.omf_map.specs.declared.listing.Part.{Part}
use Rattle.omf_map.specs.declared.listing.Part.TheVariants as part

abbrev pub part_lines : Part → ℕ × AddressedModule → List ℕ
part_lines part.Segments m = segment_lines m
part_lines part.Publics m = public_lines m
part_lines part.Externals m = external_lines m

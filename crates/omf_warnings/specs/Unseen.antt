-- What a link text does that may not be meant (this profile's rule).
use Rattle.std.specs.Prelude.{◌≡◌, ◌%◌, ◌==◌, Bool, not, List, ◌++◌, map, find, Option, option_map, option_to_list}
use Rattle.omf_layout.specs.Wants.{bytes_aligned}
use Rattle.omf_check.specs.Module.{Module, typed_modules}
use Rattle.omf_output.specs.Near.{first_near}
use Rattle.omf_placement.specs.Derive.{placed_modules}
use Rattle.omf_placement.specs.Placement.{Places}
use Rattle.omf_warnings.specs.Frames.{first_split}
use Rattle.omf_warnings.specs.RealMode.{first_unreal}
use Rattle.omf_warnings.specs.Lying.{lyings, seen}
use Rattle.omf_warnings.specs.Overlaps.{IsFirstOverlap}
use Rattle.omf_warnings.specs.Wide.{first_wide}
use Rattle.omf_warnings.specs.declared.span.Span.{Span}
use Rattle.omf_warnings.specs.declared.finding.Range.{Range}
use Rattle.omf_warnings.specs.declared.finding.Finding.{Finding as Found}
use Rattle.omf_warnings.specs.declared.finding.Finding.TheVariants.{Overlap, Align, Group, Frames, Selector, Near}
use Rattle.omf_warnings.specs.declared.frames.Framed.{Framed}

-- The address is no multiple of the alignment (TIS OMF 1.1, "SEGDEF", A field; 4,096 of a raised segment). An absolute segment has none.
abbrev pub is_misaligned : Span → Bool
is_misaligned s = not (s.first % bytes_aligned s.alignment == 0)

-- As it is reported.
abbrev pub range_of : Span → Range
range_of s = record { owner = s.owner; first = s.first; end = s.end }

abbrev pub overlap_of : Span × Span → Found
overlap_of both = Overlap (range_of both.0) (range_of both.1)

abbrev pub align_of : Span → Found
align_of s = Align s.owner s.first (bytes_aligned s.alignment)

abbrev pub frames_of : Framed × Framed → Found
frames_of both = Frames both.0 both.1

-- What is found of each sort, none or one, one after another.
abbrev pub listed : Option Found → Option Found → Option Found → Option Found → Option Found → Option Found → List Found
listed overlap align group frames selector near =
    ((((option_to_list overlap ++ option_to_list align) ++ option_to_list group) ++ option_to_list frames) ++ option_to_list selector) ++ option_to_list near

-- At most one of each sort: two segments with the lowest address in common that they may not share; the first segment with an address that its alignment does
-- not allow; the first 16-bit member of a group that ends too far from the group's frame; the first parts of one segment, or groups of one name, with different
-- frames; in real mode the first frame with a base that is not 16 times its selector; and the first near reference into another frame.
pub record AreUnseen (ms : List Module) (pls : List Places) (found : List Found) : Type 0 where
  pub spans : List Span
  pub lie : map seen spans ≡ lyings (placed_modules ms pls)
  pub overlap : Option (Span × Span)
  pub first : IsFirstOverlap spans overlap
  pub are : found ≡ listed (option_map overlap_of overlap) (option_map align_of (find is_misaligned spans)) (option_map Group (first_wide (placed_modules ms pls))) (option_map frames_of (first_split ms pls)) (option_map Selector (first_unreal (placed_modules ms pls))) (option_map Near (first_near ms pls))

-- The combined segments and the far addresses of publics, as LINK's map and a debugger show them (this profile's rule): a far address is a selector and an offset. Selectors of a DOS program count from the paragraph at
-- which it is loaded.
use Rattle.std.specs.Prelude.{◌≡◌, ℕ, ◌+◌, ◌-◌, ◌^◌, min, List, [], ◌∷◌, ◌++◌, flat_map, codes, decimal, nat_lt, Option, Some, None, option_map, option_to_list, unwrap_or, if◌then◌else◌}
use Rattle.std.specs.List.{enumerate_from}
use Rattle.omf_check.specs.Module.{Module, typed_modules}
use Rattle.omf_check.specs.Tables.{entry, groups, names, segments}
use Rattle.omf_linking.specs.Locator.Keys.{module_name}
use Rattle.omf_listing.specs.Combined.{CombinedSegment, by_start, combined_segments}
use Rattle.omf_listing.specs.Publics.{by_name, by_value}
use Rattle.omf_listing.specs.Sorted.{AreSorted}
use Rattle.omf_lowering.specs.Layouts.{LineNumbers}
use Rattle.omf_lowering.specs.Lines.{lines_of}
use Rattle.omf_lowering.specs.declared.linnum.LineNumber.{LineNumber}
use Rattle.omf_placement.specs.Derive.{PlacedModule, PlacedPublic, all_publics, base_of, placed_modules}
use Rattle.omf_placement.specs.Placement.{Places}
use Rattle.omf_placement.specs.Quoted.{hex, named, quoted}
use Rattle.omf_placement.specs.declared.frame.Frame.{Frame}
use Rattle.omf_placement.specs.declared.frame.Placed.{Placed}
use Rattle.omf_records.specs.Values.{At, GroupItem}
use Rattle.omf_map.specs.Addresses.{addressed}
use Rattle.omf_map.specs.MapText.{line, map_text}

-- A selector and an offset, of four hexadecimal digits each, or more.
abbrev pub far : ℕ → ℕ → List ℕ
far selector offset = hex 4 selector ++ 58 ∷ hex 4 offset

-- A place in its frame; a dash where the address is below the frame's base.
abbrev pub far_place : Placed → List ℕ
far_place p = if nat_lt p.address p.frame.base then codes "-" else far p.frame.selector (p.address - p.frame.base)

-- A public: the word of its list, its place and its name.
abbrev pub far_line : List ℕ → PlacedPublic → List ℕ
far_line word p = line (word ∷ far_place p.place ∷ quoted p.name ∷ [])

-- An address or a length in a line. (Of a module that is accepted none is above 2^33.)
abbrev pub eight : ℕ → List ℕ
eight n = hex 8 (min n (2 ^ 64 - 1))

-- A combined segment: the addresses of its first and of its last byte, its length, its name and that of its class.
abbrev pub whole_line : CombinedSegment → List ℕ
whole_line s = line (codes "whole" ∷ eight s.start ∷ eight (s.end - 1) ∷ eight (s.end - s.start) ∷ quoted s.name ∷ quoted s.class ∷ [])

-- The selector of a group; a dash if the placement has none.
abbrev pub selector_or_dash : Option Frame → List ℕ
selector_or_dash f = unwrap_or (option_map (λ x. hex 4 x.selector) f) (codes "-")

-- A group: the number of its module, its index, its selector and its name.
abbrev pub group_line : ℕ → PlacedModule → ℕ × GroupItem → List ℕ
group_line number m g = line (codes "group" ∷ decimal number ∷ decimal g.0 ∷ selector_or_dash (entry m.1.groups g.0) ∷ named (names m.0) g.1.name.item ∷ [])

abbrev pub group_lines : ℕ × PlacedModule → List ℕ
group_lines m = flat_map (group_line m.0 m.1) (enumerate_from 1 (groups m.1.0))

-- A line of the source: its place, the number of its module, its own number, and the source, as the module's THEADR or LHEADR names it (TIS OMF 1.1, "THEADR").
abbrev pub source_line : ℕ → List ℕ → Placed → At LineNumber → List ℕ
source_line number source base l =
    line (codes "line" ∷ far_place (record { address = base.address + l.item.offset; frame = base.frame }) ∷ decimal number ∷ decimal l.item.number ∷ quoted source ∷ [])

-- A line of a segment of this length. One at its end or after it is of no byte: so is each line of a segment that the linker left out, which is empty.
abbrev pub line_within : ℕ → List ℕ → Placed → ℕ → At LineNumber → List ℕ
line_within number source base size l = if nat_lt l.item.offset size then source_line number source base l else []

-- The length of a segment of a module; 0 if no segment has the index.
abbrev pub size_of : PlacedModule → ℕ → ℕ
size_of m index = unwrap_or (option_map (λ s. s.length) (entry (segments m.0) index)) 0

-- The lines of a LINNUM. Its base is found as a PUBDEF's.
abbrev pub lines_at : ℕ → PlacedModule → Option LineNumbers → List ℕ
lines_at number m None = []
lines_at number m (Some l) = flat_map (λ base. flat_map (line_within number (module_name m.0) base (size_of m l.segment)) l.items) (option_to_list (base_of m.1 l.group l.segment None))

abbrev pub source_lines : ℕ × PlacedModule → List ℕ
source_lines m = flat_map (λ r. lines_at m.0 m.1 (lines_of r.kind r.contents)) m.1.0

-- The map of a program: that of its modules at their placements, and after it their combined segments by address, the selectors of their groups, the far addresses of
-- their publics that are not local, first by name and then by value, and those of the lines of their sources. Modules are counted from 1, and so are the groups of each.
pub record IsProgramMap (ms : List Module) (pls : List Places) (text : List ℕ) : Type 0 where
  pub segments : List CombinedSegment
  pub names : List PlacedPublic
  pub values : List PlacedPublic
  pub by_address : AreSorted by_start (combined_segments (typed_modules ms) pls) segments
  pub by_name : AreSorted by_name (all_publics (placed_modules ms pls)) names
  pub by_value : AreSorted by_value (all_publics (placed_modules ms pls)) values
  pub printed : text ≡ map_text (addressed (typed_modules ms) pls) ++ flat_map whole_line segments ++ flat_map group_lines (enumerate_from 1 (placed_modules ms pls))
      ++ flat_map (far_line (codes "name")) names ++ flat_map (far_line (codes "value")) values ++ flat_map source_lines (enumerate_from 1 (placed_modules ms pls))

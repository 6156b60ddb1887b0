-- The segments of modules at their placements (this profile's rule).
use Rattle.std.specs.Prelude.{ℕ, ◌+◌, List, map, flat_map, Option, Some, None, if◌then◌else◌}
use Rattle.std.specs.List.{enumerate_from, zip}
use Rattle.omf_check.specs.Tables.{attributes, segments}
use Rattle.omf_check.specs.declared.segment.SegInfo.{SegInfo}
use Rattle.omf_layout.specs.Several.Portions.{name_at}
use Rattle.omf_layout.specs.Wants.{alignment_in}
use Rattle.omf_layout.specs.declared.alignment.Alignment.{Alignment}
use Rattle.omf_linking.specs.Segments.{address_in, is_common}
use Rattle.omf_linking.specs.declared.space.stretch.Owner.{Owner}
use Rattle.omf_placement.specs.Derive.{PlacedModule}
use Rattle.omf_warnings.specs.declared.span.Sharing.{Sharing}
use Rattle.omf_warnings.specs.declared.span.Sharing.TheVariants.{Alone, Common, Absolute}
use Rattle.omf_warnings.specs.declared.span.Span.{Span}

-- A segment of one of several modules: its names, its alignment, and its addresses, from the first to the one after the last.
pub record Lying : Type 0 where
  pub owner : Owner
  pub name : List ℕ
  pub class : List ℕ
  pub sharing : Sharing
  pub alignment : Alignment
  pub first : ℕ
  pub end : ℕ

-- A segment is absolute, or common, or neither (TIS OMF 1.1, "SEGDEF", A and C fields).
abbrev pub sharing_of : Option (ℕ × ℕ) → ℕ → Sharing
sharing_of (Some place) attribute = Absolute
sharing_of None attribute = if is_common attribute then Common else Alone

-- A segment of module j, by its index, its SEGDEF and its attribute: it begins at the address of its place, and has as many addresses as its length.
abbrev pub lying : ℕ → PlacedModule → ℕ × (SegInfo × ℕ) → Lying
lying j m x = record {
  owner = record { «module» = j; segment = x.0 };
  name = name_at m.0 x.1.0.name;
  class = name_at m.0 x.1.0.class;
  sharing = sharing_of x.1.0.absolute x.1.1;
  alignment = alignment_in m.0 x.0 x.1.1;
  first = address_in m.1.segments x.0;
  end = address_in m.1.segments x.0 + x.1.0.length;
}

-- The segments of a module, counted from 1, and those of all modules, counted from 0.
abbrev pub lyings_in : ℕ × PlacedModule → List Lying
lyings_in m = map (lying m.0 m.1) (enumerate_from 1 (zip (segments m.1.0) (attributes m.1.0)))

abbrev pub lyings : List PlacedModule → List Lying
lyings ms = flat_map lyings_in (enumerate_from 0 ms)

-- A segment as the code has it.
abbrev pub seen : Span → Lying
seen s = record { owner = s.owner; name = s.name.now; class = s.class.now; sharing = s.sharing; alignment = s.alignment; first = s.first; end = s.end }

-- Segments, and members of groups, that end too far from their frame (this profile's rule).
use Rattle.std.specs.Prelude.{ℕ, List, Option, option_and_then}
use Rattle.std.specs.List.{enumerate_from}
use Rattle.omf_check.specs.Tables.{attributes, entry, segments}
use Rattle.omf_check.specs.declared.segment.SegInfo.{SegInfo}
use Rattle.omf_placement.specs.Derive.{PlacedModule}
use Rattle.omf_warnings.specs.Wide.{first_some, first_wide, or_else, wide_if}
use Rattle.omf_warnings.specs.declared.wide.FarMember.{FarMember as Far}

-- Segment k of module j, if it has 16 bits and ends more than 65536 bytes after the base of its own frame: parts that are combined share the frame of
-- the first one (TIS OMF 1.1, "SEGDEF", C field). Group 0 is none. None if an entry is missing.
abbrev pub long : ℕ → PlacedModule → ℕ × SegInfo → Option Far
long j m s = option_and_then (λ p. option_and_then (λ a. wide_if j 0 s.0 p.frame p s.1 a) (entry (attributes m.0) s.0)) (entry m.1.segments s.0)

-- The first such segment of a module, and of all modules; segments are counted from 1, modules from 0.
abbrev pub long_in_module : ℕ → PlacedModule → Option Far
long_in_module j m = first_some (long j m) (enumerate_from 1 (segments m.0))

abbrev pub first_alone : List PlacedModule → Option Far
first_alone ms = first_some (λ x. long_in_module x.0 x.1) (enumerate_from 0 ms)

-- The first such segment; or else the first member of a group that ends too far from the group's frame.
abbrev pub first_long : List PlacedModule → Option Far
first_long ms = or_else (first_alone ms) (first_wide ms)

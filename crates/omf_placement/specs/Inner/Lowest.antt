-- The steps of finding a group's lowest member.
use Rattle.std.specs.Prelude.{List, Option, Some, None, option_and_then, nat_le, if◌then◌else◌}
use Rattle.omf_records.specs.Values.{Contents, Group}
use Rattle.omf_placement.specs.Placement.{Placed, lowest, members_placed}

-- the lower of the place found so far and the next
abbrev pub lower_than : Option Placed → Placed → Placed
lower_than None q = q
lower_than (Some p) q = if nat_le p.address q.address then p else q

-- the place of the lowest member of a GRPDEF's contents
abbrev pub lowest_in : List Placed → Contents → Option Placed
lowest_in xs (Group g) = option_and_then lowest (members_placed xs g.members)
lowest_in xs _ = None

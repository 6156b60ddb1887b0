-- Names for parts of definitions, used in proofs and in contracts of private functions.

use Rattle.omf_placement.specs.Entries.{Entry}
use Rattle.std.specs.Option.{option_map_or}
use Rattle.std.specs.Prelude.{filter_map, List, ℕ, Option, is_some, None, Some, nat_le, if◌then◌else◌, Result, Ok, Err, slice_get}
use Rattle.omf_placement.specs.PlacementText.{line_entries}
use Rattle.omf_placement.specs.declared.frame.Frame.{Frame}
use Rattle.omf_placement.specs.Placement.{Placed}

abbrev pub ok_or_first : {A : Type 0} → A → List ℕ → Result A ℕ
ok_or_first a lines = option_map_or (λ n. Err n) (slice_get lines 0) (Ok a)

-- The line of an entry that is none; and that of a group whose frame cannot be found.
abbrev pub bad_line : ℕ × Option Entry → Option ℕ
bad_line l = if is_some l.1 then None else Some l.0

abbrev pub line_unless : ℕ → Option Frame → Option ℕ
line_unless n frame = if is_some frame then None else Some n

-- The place with the lower address, the first at a tie.
abbrev pub lower : Placed → Option Placed → Placed
lower p found = option_map_or (λ q. if nat_le p.address q.address then p else q) found p

abbrev pub bad_lines : List ℕ → List ℕ
bad_lines text = filter_map bad_line (line_entries text)

use Rattle.std.proofs.Common.{◌≡◌, ◌++◌, take}
use Rattle.std.specs.Prelude.{flat_map, string_bytes}
use Rattle.omf_map.specs.Far.{whole_line}
use Rattle.omf_map.proofs.far.print_wholes.Given as goal

-- the lines so far
abbrev pub invariant-loop-segment : goal.invariant-loop-segment
invariant-loop-segment l = string_bytes l.text ≡ string_bytes l.fn.text ++ flat_map whole_line (take l.segment-index l.segments)

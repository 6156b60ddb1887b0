use Rattle.std.proofs.Common.{◌≡◌, ◌++◌, take}
use Rattle.std.specs.Prelude.{flat_map, string_bytes}
use Rattle.omf_map.specs.Far.{line_within}
use Rattle.omf_map.proofs.far.print_lines.Given as goal

-- the lines so far
abbrev pub invariant-loop-line : goal.invariant-loop-line
invariant-loop-line l = string_bytes l.text ≡ string_bytes l.fn.text ++ flat_map (line_within l.at.number l.at.source.now l.at.base l.at.size) (take l.line-index l.lines)

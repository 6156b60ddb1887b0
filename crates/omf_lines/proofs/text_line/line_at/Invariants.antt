use Rattle.std.proofs.Common.{◌≡◌}
use Rattle.std.specs.Prelude.{option_map, slice_get}
use Rattle.omf_placement.specs.Inner.Parsing.{parts_after}
use Rattle.omf_lines.specs.TextLines.{line_at}
use Rattle.omf_lines.proofs.text_line.line_at.Given as goal

-- the line is one of those that are left
abbrev pub invariant-loop-rest : goal.invariant-loop-rest
invariant-loop-rest l = slice_get (parts_after 10 (option_map (λ t. t.now) l.rest)) l.left ≡ line_at l.text l.before

abbrev pub decreases-loop-rest : goal.decreases-loop-rest
decreases-loop-rest l = l.left

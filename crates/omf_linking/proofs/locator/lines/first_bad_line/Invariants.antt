use Rattle.std.proofs.Common.{◌+◌, ◌≤◌, length}
use Rattle.std.specs.Prelude.{option_map}
use Rattle.omf_placement.specs.Inner.Parsing.{parts_after}
use Rattle.omf_linking.proofs.LineLaws.{IsFine, left_len, lines_from}
use Rattle.omf_linking.proofs.locator.lines.first_bad_line.Given as goal

-- no line so far is at fault
abbrev pub invariant-loop-rest : goal.invariant-loop-rest
invariant-loop-rest l = record {
  fine : IsFine l.text (lines_from (l.number + 1) (parts_after 10 (option_map (λ t. t.now) l.rest)));
  numbered : l.number + left_len (option_map (λ t. t.now) l.rest) ≤ length l.text + 1;
}

abbrev pub decreases-loop-rest : goal.decreases-loop-rest
decreases-loop-rest l = left_len (option_map (λ t. t.now) l.rest)

use Rattle.std.proofs.Common.{◌+◌, ◌≤◌, length}
use Rattle.std.specs.Prelude.{option_map}
use Rattle.omf_check.specs.Module.{typed_modules}
use Rattle.omf_placement.specs.Inner.Parsing.{parts_after}
use Rattle.omf_linking.proofs.LineLaws.{AreTaken, left_len, lines_from}
use Rattle.omf_linking.proofs.locator.lines.taken.Given as goal

-- the items of the lines so far are kept, and the others are left
abbrev pub invariant-loop-rest : goal.invariant-loop-rest
invariant-loop-rest l = record {
  taken : AreTaken (typed_modules l.modules) l.text l.taken (lines_from (l.number + 1) (parts_after 10 (option_map (λ t. t.now) l.rest)));
  numbered : l.number + left_len (option_map (λ t. t.now) l.rest) ≤ length l.text + 1;
}

abbrev pub decreases-loop-rest : goal.decreases-loop-rest
decreases-loop-rest l = left_len (option_map (λ t. t.now) l.rest)

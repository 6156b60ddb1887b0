use Rattle.std.proofs.Common.{◌≡◌, drop}
use Rattle.std.specs.Prelude.{filter, fold}
use Rattle.omf_output.specs.Stacks.{hull, joined}
use Rattle.omf_output.proofs.stacks.hull_of.Given as goal

-- the addresses so far with the segments to come are those of all
abbrev pub invariant-loop-part : goal.invariant-loop-part
invariant-loop-part l = fold joined l.hull (filter (λ x. x.is_stack) (drop l.part-index l.intervals)) ≡ hull l.intervals

use Rattle.std.proofs.Common.{◌≡◌, drop}
use Rattle.std.specs.Prelude.{find}
use Rattle.omf_output.specs.Stacks.{is_between}
use Rattle.omf_output.proofs.stacks.find_between.Given as goal

-- the first of those to come is the first of all
abbrev pub invariant-loop-part : goal.invariant-loop-part
invariant-loop-part l = find (is_between l.hull) (drop l.part-index l.intervals) ≡ find (is_between l.hull) l.intervals

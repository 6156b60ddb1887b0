use Rattle.std.proofs.Common.{drop}
use Rattle.omf_lib.proofs.FindLaws.{IsFrontOf}
use Rattle.omf_lib.proofs.finding.all_publics.Given as goal

-- the publics so far, and the members that are left
abbrev pub invariant-loop-number : goal.invariant-loop-number
invariant-loop-number l = IsFrontOf l.members l.number (drop l.number l.members) l.all.items

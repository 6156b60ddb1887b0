use Rattle.std.proofs.Common.{drop}
use Rattle.omf_find.proofs.GatheredLaws.{IsFrontOf}
use Rattle.omf_find.proofs.reading.Gathered.take_members.Given as goal

-- what is taken so far, and the members that are left
abbrev pub invariant-loop-member : goal.invariant-loop-member
invariant-loop-member l = IsFrontOf l.profile l.file l.members l.member (drop l.member l.members) l.fn.self l.self

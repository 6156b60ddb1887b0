use Rattle.std.proofs.Common.{◌≡◌}
use Rattle.omf_check.specs.Inner.Judging.{lesser, members_fault}
use Rattle.omf_check.proofs.rule.members_fault.Given as goal

-- the fault so far, and that of the remaining ones
abbrev pub invariant-loop-member : goal.invariant-loop-member
invariant-loop-member l = lesser l.found (members_fault l.count l.member-iterator) ≡ members_fault l.count l.fn.members

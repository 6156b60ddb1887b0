use Rattle.std.proofs.Common.{take}
use Rattle.std.specs.List.{AllZip}
use Rattle.omf_finding.specs.Chain.{IsDraft}
use Rattle.omf_finding.proofs.finding.drafts.Given as goal

-- the modules so far have their drafts
abbrev pub invariant-loop-number : goal.invariant-loop-number
invariant-loop-number l = AllZip (IsDraft l.ended.program.now) (take l.number l.modules) l.drafts.items

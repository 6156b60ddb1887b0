use Rattle.std.proofs.Common.{drop}
use Rattle.omf_find.proofs.PartLaws.{IsFront}
use Rattle.omf_find.proofs.parts.Parts.take_all.Given as goal

-- the modules so far, and those that are left
abbrev pub invariant-loop-number : goal.invariant-loop-number
invariant-loop-number l = IsFront l.program l.modules l.verdicts l.number (drop l.number l.modules) l.fn.self l.self

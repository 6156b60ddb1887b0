use Rattle.omf_communals.proofs.WalkLaws.{IsReplacing}
use Rattle.omf_communals.proofs.communals.bytes_with.Given as goal

-- the records so far are replaced, and the records to come are left
abbrev pub invariant-loop-number : goal.invariant-loop-number
invariant-loop-number l = IsReplacing l.«module».bytes l._number l.replacing l.left

use Rattle.omf_trimming.proofs.RestLaws.{IsRest}
use Rattle.omf_trimming.proofs.without.without_bytes.Given as goal

-- what is left of the records so far, and the records to come
abbrev pub invariant-loop-number : goal.invariant-loop-number
invariant-loop-number l = IsRest l.fn.publics l.gone l.«module».bytes l.number l.rest l.left

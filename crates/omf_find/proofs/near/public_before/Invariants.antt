use Rattle.omf_check.specs.Module.{records_in}
use Rattle.omf_check.specs.WellFormed.{recs}
use Rattle.omf_find.specs.Nearly.{publics_of}
use Rattle.omf_find.proofs.NearlyLaws.{IsSoFar, listed_publics}
use Rattle.omf_find.proofs.near.public_before.Given as goal

-- the best one so far, with the publics of the records that are left
abbrev pub invariant-loop-rec : goal.invariant-loop-rec
invariant-loop-rec l = IsSoFar l.offset l.best (listed_publics l.segment l.rec-iterator) (publics_of l.segment (recs (records_in l.«module».bytes)))

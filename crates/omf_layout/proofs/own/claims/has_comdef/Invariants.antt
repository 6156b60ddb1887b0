use Rattle.std.proofs.Common.{◌≡◌}
use Rattle.std.specs.Prelude.{◌||◌}
use Rattle.omf_check.specs.Module.{records_in}
use Rattle.omf_check.specs.WellFormed.{recs}
use Rattle.omf_layout.specs.Own.Claims.{has_comdef}
use Rattle.omf_layout.proofs.ComdefLaws.{comdefs-by}
use Rattle.omf_layout.proofs.own.claims.has_comdef.Given as goal

-- one so far, or one of those that are left
abbrev pub invariant-loop-rec : goal.invariant-loop-rec
invariant-loop-rec l = (l.found || comdefs-by l.rec-iterator) ≡ has_comdef (recs (records_in l.«module».bytes))

use Rattle.std.proofs.Common.{◌≡◌, ◌++◌}
use Rattle.std.specs.Prelude.{map}
use Rattle.omf_check.specs.Module.{records_in}
use Rattle.omf_check.specs.WellFormed.{recs}
use Rattle.omf_layout.specs.Own.Claims.{module_claims}
use Rattle.omf_layout.specs.Several.Gathered.{named}
use Rattle.omf_layout.proofs.OwnLaws.{claims-by}
use Rattle.omf_layout.proofs.own.claims.add_module.Given as goal

-- the claims so far, and those of the records that are left
abbrev pub invariant-loop-rec : goal.invariant-loop-rec
invariant-loop-rec l = map named l.claims.items ++ claims-by l.rec-iterator ≡ map named l.fn.claims.items ++ module_claims (recs (records_in l.«module».bytes))

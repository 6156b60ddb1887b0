use Rattle.std.proofs.Common.{◌∙◌, sym, Some, None}
use Rattle.omf_check.specs.Module.{records_in}
use Rattle.omf_check.specs.WellFormed.{recs}
use Rattle.omf_reloc.proofs.ReachedLaws.{far-behind, misfit-first}
use Rattle.omf_reloc.proofs.reaching.reach.Goals as goal

pub returns-in-Some : goal.returns-in-Some
returns-in-Some c = sym (misfit-first c.args.placement.now (recs (records_in c.args.module.now.bytes)) c.in-Some.fault (sym c.in-Some.is ∙ c.misfit.ensures))

pub returns-in-Some-far_fault : goal.returns-in-Some-far_fault
returns-in-Some-far_fault c =
    sym (far-behind c.args.placement.now (recs (records_in c.args.module.now.bytes)) (Some c.in-Some-far_fault.fault) (sym c.in_default.is ∙ c.misfit.ensures) (sym c.in-Some-far_fault.is ∙ c.far_fault.ensures))

pub returns-in-None : goal.returns-in-None
returns-in-None c =
    sym (far-behind c.args.placement.now (recs (records_in c.args.module.now.bytes)) None (sym c.in_default.is ∙ c.misfit.ensures) (sym c.in-None.is ∙ c.far_fault.ensures))

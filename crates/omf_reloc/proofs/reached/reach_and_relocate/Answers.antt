use Rattle.std.proofs.Common.{◌∙◌, sym, subst, None, Some}
use Rattle.std.specs.Prelude.{slice_get}
use Rattle.omf_image.proofs.TurnLaws.{images_are}
use Rattle.omf_image.specs.Limits.{profile_limits}
use Rattle.omf_check.specs.Module.{records_in}
use Rattle.omf_check.specs.WellFormed.{recs}
use Rattle.omf_reloc.specs.Image.{laid}
use Rattle.omf_reloc.specs.Inner.ReachSteps.{IsFirstFar}
use Rattle.omf_reloc.specs.Plain.{pieces}
use Rattle.omf_reloc.specs.Reach.{far_faults}
use Rattle.omf_reloc.proofs.ReachedLaws.{far-behind}
use Rattle.omf_reloc.proofs.reached.reach_and_relocate.Goals as goal

pub returns-in-Ok-clause-reaches : goal.returns-in-Ok-clause-reaches
returns-in-Ok-clause-reaches c = far-behind c.args.placement.now (recs (records_in c.args.module.now.bytes)) None (sym c.in_default.is ∙ c.misfit.ensures) (sym c.in-Ok.ensures.reaches)

pub returns-in-Err-Reach-clause-err : goal.returns-in-Err-Reach-clause-err
returns-in-Err-Reach-clause-err c =
    let pl = c.args.placement.now in
    let m = recs (records_in c.args.module.now.bytes) in
    far-behind pl m (Some c.in-Err-Reach.fault) (sym c.in_default.is ∙ c.misfit.ensures)
    (sym (subst (IsFirstFar (slice_get (far_faults pl m) 0)) c.in-Err-Reach.field-0-is c.in-Err-Reach.ensures.far))

pub returns-in-Ok-clause-bytes : goal.returns-in-Ok-clause-bytes
returns-in-Ok-clause-bytes c = (images_are (laid profile_limits c.args.placement.now (pieces (recs (records_in c.args.module.now.bytes)))) c.in-Ok.image c.in-Ok.ensures.laid).0

pub returns-in-Ok-clause-runs : goal.returns-in-Ok-clause-runs
returns-in-Ok-clause-runs c = (images_are (laid profile_limits c.args.placement.now (pieces (recs (records_in c.args.module.now.bytes)))) c.in-Ok.image c.in-Ok.ensures.laid).1

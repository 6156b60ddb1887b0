use Rattle.std.proofs.Common.{subst}
use Rattle.std.specs.Prelude.{slice_get}
use Rattle.omf_image.proofs.TurnLaws.{images_are}
use Rattle.omf_image.specs.Limits.{profile_limits}
use Rattle.omf_check.specs.Module.{records_in}
use Rattle.omf_check.specs.WellFormed.{recs}
use Rattle.omf_reloc.specs.Image.{laid}
use Rattle.omf_reloc.specs.Inner.ReachSteps.{IsFirstFar}
use Rattle.omf_reloc.specs.Plain.{pieces}
use Rattle.omf_reloc.specs.Reach.{far_faults}
use Rattle.omf_reloc.proofs.ReachedLaws.{reached-not-far}
use Rattle.omf_reloc.proofs.relocating.relocate.Goals as goal

pub unreachable-requires : goal.unreachable-requires
unreachable-requires c =
    let pl = c.args.placement.now in
    let m = recs (records_in c.args.module.now.bytes) in
    reached-not-far pl m c.in-Err-Reach._fault c.requires (subst (IsFirstFar (slice_get (far_faults pl m) 0)) c.in-Err-Reach.field-0-is c.in-Err-Reach.ensures.far)

pub returns-in-Ok-clause-bytes : goal.returns-in-Ok-clause-bytes
returns-in-Ok-clause-bytes c = (images_are (laid profile_limits c.args.placement.now (pieces (recs (records_in c.args.module.now.bytes)))) c.in-Ok.image c.in-Ok.ensures.laid).0

pub returns-in-Ok-clause-runs : goal.returns-in-Ok-clause-runs
returns-in-Ok-clause-runs c = (images_are (laid profile_limits c.args.placement.now (pieces (recs (records_in c.args.module.now.bytes)))) c.in-Ok.image c.in-Ok.ensures.laid).1

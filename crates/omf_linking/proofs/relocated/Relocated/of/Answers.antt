use Rattle.omf_image.proofs.TurnLaws.{images_are}
use Rattle.omf_image.specs.Limits.{profile_limits}
use Rattle.omf_check.specs.Module.{records_in}
use Rattle.omf_check.specs.WellFormed.{recs}
use Rattle.omf_reloc.specs.Image.{laid}
use Rattle.omf_reloc.specs.Plain.{pieces}
use Rattle.omf_linking.proofs.relocated.Relocated.of.Goals as goal

pub returns : goal.returns
returns c =
    let ls = laid profile_limits c.args.placement.now (pieces (recs (records_in c.args.module.now.bytes))) in
    record { reaches = c.in-Ok.ensures.reaches; bytes = (images_are ls c.in-Ok.image c.in-Ok.ensures.laid).0; starts = c.start-start.ensures }

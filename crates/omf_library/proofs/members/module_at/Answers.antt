use Rattle.std.proofs.Common.{ap}
use Rattle.omf_frame.specs.Device.{Device}
use Rattle.omf_library.proofs.MemberLaws.{module_read}
use Rattle.omf_library.proofs.members.module_at.Goals as goal

pub returns-in-Ok : goal.returns-in-Ok
returns-in-Ok c =
    module_read c.args.profile c.args.bytes.now c.args.page.at c.args.page.count c.split_at.result.1.now c.in-Ok.module c.split_at.ensures.back
    (c.in-Ok.ensures.verdict c.split_at.result.1.now (ap (λ (d : Device). d.bytes) c.new.ensures)) c.requires

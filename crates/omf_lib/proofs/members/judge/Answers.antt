use Rattle.std.proofs.Common.{ap, subst, Err}
use Rattle.omf_frame.specs.Device.{Device}
use Rattle.omf_check.specs.Checking.{Decides}
use Rattle.omf_check.specs.declared.fault.CheckFault.{CheckFault}
use Rattle.omf_lib.proofs.members.judge.Goals as goal

pub returns-in-Ok : goal.returns-in-Ok
returns-in-Ok c = c.in-Ok.ensures.verdict c.args.bytes.now (ap (λ (d : Device). d.bytes) c.new.ensures)

pub returns-in-Err-Refused : goal.returns-in-Err-Refused
returns-in-Err-Refused c =
    subst (λ (f : CheckFault). Decides c.args.profile c.args.bytes.now (Err f)) c.in-Err-Refused.field-0-is (c.in-Err-Refused.ensures.verdict c.args.bytes.now (ap (λ (d : Device). d.bytes) c.new.ensures))

use Rattle.std.proofs.Common.{Err, ap, inl, length, refl, subst}
use Rattle.omf_check.specs.Checking.{Decides}
use Rattle.omf_check.specs.declared.fault.CheckFault.{CheckFault}
use Rattle.omf_frame.specs.Device.{Device}
use Rattle.omf_making.proofs.taken.judge_taken.Goals as goal

pub returns-in-Ok : goal.returns-in-Ok
returns-in-Ok c =
    inl (record {
      accepted = c.in-Ok.ensures.verdict c.args.bytes.now (ap (λ (d : Device). d.bytes) c.new.ensures);
      sized = ap length c.bytes-length.ensures.bytes;
      marked = refl;
    })

pub judge_lowering-requires : goal.judge_lowering-requires
judge_lowering-requires c =
    subst (λ (f : CheckFault). Decides c.args.profile c.args.bytes.now (Err f)) c.in-Err-Refused.field-0-is (c.in-Err-Refused.ensures.verdict c.args.bytes.now (ap (λ (d : Device). d.bytes) c.new.ensures))

use Rattle.std.proofs.Common.{ap, refl, subst, Err}
use Rattle.omf_frame.specs.Device.{Device}
use Rattle.omf_image.specs.Limits.{profile_limits}
use Rattle.omf_check.specs.Checking.{Decides}
use Rattle.omf_check.specs.Module.{records_in}
use Rattle.omf_check.specs.Refusal.{IsRefused}
use Rattle.omf_check.specs.declared.fault.CheckFault.{CheckFault}
use Rattle.omf_dump.proofs.answer.show_module.Goals as goal

pub returns-in_ok-dump_module-in-Ok : goal.returns-in_ok-dump_module-in-Ok
returns-in_ok-dump_module-in-Ok g c =
    let v = c.in-Ok.ensures.verdict c.args.input.now (ap (λ (d : Device). d.bytes) c.new.ensures) in
    (_, (records_in c.in-Ok.checked.bytes, v.1.0, refl), c.in_ok-dump_module-in-Ok.ensures)

pub returns-in_ok-dump_refused-in-Err-Refused : goal.returns-in_ok-dump_refused-in-Err-Refused
returns-in_ok-dump_refused-in-Err-Refused g c =
    let held = ap (λ (d : Device). d.bytes) c.new.ensures in
    let refused : IsRefused c.args.mode.profile profile_limits c.args.input.now c.in-Err-Refused.reason c.in-Err-Refused.place =
    subst (λ (f : CheckFault). Decides c.args.mode.profile c.args.input.now (Err f)) c.in-Err-Refused.field-0-is (c.in-Err-Refused.ensures.verdict c.args.input.now held) in
    (_, (c.in-Err-Refused.reason, c.in-Err-Refused.place, refused, refl), c.in_ok-dump_refused-in-Err-Refused.ensures c.args.mode.profile refused)

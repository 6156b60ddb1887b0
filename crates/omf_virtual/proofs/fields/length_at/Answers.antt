use Rattle.std.proofs.Common.{◌+◌, ◌∙◌, sym, ap, Err}
use Rattle.omf_frame.specs.Fault.{Fault}
use Rattle.omf_frame.specs.Fields.{IsCommunalLength}
use Rattle.omf_frame.specs.declared.fault.Reason.{Reason}
use Rattle.omf_records.specs.Layout.{fault, length_reason}
use Rattle.omf_records.specs.Inner.FieldReaders.{length_again, length_ok, length_read, length_refused}
use Rattle.omf_virtual.proofs.FieldSteps.{read_at, unread}
use Rattle.omf_virtual.proofs.fields.length_at.Goals as goal

pub returns-in-Some-clause-read : goal.returns-in-Some-clause-read
returns-in-Some-clause-read c = read_at length_reason IsCommunalLength length_read length_again c.args.pos _ c.args.body.now _ c.in-Some.ensures.found

pub returns-in-None-clause-read : goal.returns-in-None-clause-read
returns-in-None-clause-read c =
    ap (λ (e : Fault). Err e) (c.fault_at.ensures ∙ ap (λ (r : Reason). fault (3 + c.args.pos) r) (c.length_reason.ensures ∙ ap length_reason c.split_at.ensures.back))
    ∙ sym (unread length_reason IsCommunalLength length_read length_ok length_refused c.args.pos c.args.body.now (λ i. (c.type_inv.body i).fits) (λ v front back sp parts. c.in-None.ensures.none (record { 0 = v }) front back sp parts))

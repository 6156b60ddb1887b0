use Rattle.std.proofs.Common.{◌∙◌, sym, ap, Err}
use Rattle.omf_frame.specs.Fault.{Fault}
use Rattle.omf_frame.specs.Fields.{IsName}
use Rattle.omf_records.specs.Inner.FieldReaders.{name_again, name_ok, name_read, name_short, short}
use Rattle.omf_virtual.proofs.FieldSteps.{read_at, unread}
use Rattle.omf_virtual.proofs.fields.name_at.Goals as goal

pub returns-in-Some-clause-read : goal.returns-in-Some-clause-read
returns-in-Some-clause-read c = read_at short IsName name_read name_again c.args.pos _ c.args.body.now _ c.in-Some.ensures.found

pub returns-in-None-clause-read : goal.returns-in-None-clause-read
returns-in-None-clause-read c =
    ap (λ (e : Fault). Err e) c.fault_at.ensures
    ∙ sym (unread short IsName name_read name_ok name_short c.args.pos c.args.body.now (λ i. (c.type_inv.body i).fits) (λ v front back sp parts. c.in-None.ensures.none v front back sp parts))

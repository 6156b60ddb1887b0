use Rattle.std.proofs.Common.{◌∙◌, sym, ap, Err}
use Rattle.omf_frame.specs.Fault.{Fault}
use Rattle.omf_frame.specs.Fields.{IsLittle}
use Rattle.omf_records.specs.Inner.FieldReaders.{le_read, le_ok, le_short}
use Rattle.omf_explicit.proofs.FieldSteps.{unread}
use Rattle.omf_explicit.proofs.fields.dword_at.Goals as goal

pub returns-in-None-clause-read : goal.returns-in-None-clause-read
returns-in-None-clause-read c =
    ap (λ (e : Fault). Err e) c.fault_at.ensures
    ∙ sym (unread (IsLittle 4) (le_read 4) (le_ok 4) (le_short 4) c.args.pos c.args.body.now (λ i. (c.type_inv.body i).fits) (λ v front back sp parts. c.in-None.ensures.none (record { 0 = v }) front back sp parts))

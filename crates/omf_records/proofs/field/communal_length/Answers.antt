use Rattle.std.proofs.Common.{refl, ap, sym, ◌∙◌, Err}
use Rattle.omf_frame.specs.Fault.{Fault}
use Rattle.omf_frame.specs.Fields.{IsCommunalLength}
use Rattle.omf_records.specs.Layout.{length_reason}
use Rattle.omf_records.specs.Inner.FieldReaders.{length_read, length_ok, length_again, length_refused}
use Rattle.omf_records.proofs.FieldGives.{found, not_found}
use Rattle.omf_records.proofs.field.communal_length.Goals as goal

pub returns-in-Ok : goal.returns-in-Ok
returns-in-Ok c =
    let e = c.in-Ok.ensures in
    let n = e.0 in
    (rw (found length_reason IsCommunalLength length_read length_again c.args.here.within n c.args.here.bytes.now c.in-Ok.field-0-0.0 e.1 e.2, e.3, e.4) refl, e.5)

pub returns-in-Err : goal.returns-in-Err
returns-in-Err c =
    let e = c.in-Err.ensures in
    not_found length_reason IsCommunalLength length_read length_ok length_refused c.args.here.within c.args.here.bytes.now c.args.here.are_bytes
    (λ v front back sp parts. e.1 (record { 0 = v }) front back sp parts)
    ∙ ap (λ (x : Fault). Err x) (sym (rw (c.fault.ensures, c.length_fault.ensures, c.bytes.ensures) refl))

use Rattle.std.proofs.Common.{ap, sym, ◌∙◌, Err}
use Rattle.omf_frame.specs.Fault.{Fault}
use Rattle.omf_frame.specs.Fields.{IsLittle}
use Rattle.omf_records.specs.Inner.FieldReaders.{le_read, le_ok, le_short, short}
use Rattle.omf_records.proofs.FieldGives.{not_found}
use Rattle.omf_records.proofs.field.le16.Goals as goal

pub returns-in-Err : goal.returns-in-Err
returns-in-Err c =
    let e = c.in-Err.ensures in
    not_found short (IsLittle 2) (le_read 2) (le_ok 2) (le_short 2) c.args.here.within c.args.here.bytes.now c.args.here.are_bytes
    (λ v front back sp parts. e.1 (record { 0 = v }) front back sp parts)
    ∙ ap (λ (x : Fault). Err x) (sym e.0)

use Rattle.std.proofs.lemmas.Result.{err_from_is_err_and}
use Rattle.omf_check.specs.Module.{records_in}
use Rattle.omf_check.specs.WellFormed.{recs}
use Rattle.omf_cmd.proofs.OutcomeLaws.{not_checked, text_answered, text_refused}
use Rattle.omf_cmd.proofs.Pieces.{unbroken_on}
use Rattle.omf_cmd.proofs.RunLaws.{check_cause, outcome_cause, read_later}
use Rattle.omf_cmd.proofs.relocation.listed.Goals as goal

pub returns-in_err-checked-clause-cause : goal.returns-in_err-checked-clause-cause
returns-in_err-checked-clause-cause g c =
    let e = err_from_is_err_and c.from_residual.result c.from_residual.ensures.1 in
    rw (e.1, e.2) (
    check_cause c.args.profile (g.S.Source.seen c.args.reader.now) (g.S.Source.seen c.check.new.reader) c.in_err-checked.field-0.0
    c.in_err-checked.ensures.grows c.in_err-checked.ensures.patient c.in_err-checked.ensures.cause)

pub returns-in_err-text-clause-cause : goal.returns-in_err-text-clause-cause
returns-in_err-text-clause-cause g c =
    let e = err_from_is_err_and c.from_residual-in_err-text.result c.from_residual-in_err-text.ensures.1 in
    rw (e.1, e.2) (
    read_later (g.S.Source.seen c.args.reader.now) (g.S.Source.seen c.check.new.reader) (g.S.Source.seen c.read_text.new.source) c.in_err-text.field-0.0
    (c.in_ok-checked.ensures.patient, c.in_ok-checked.ensures.grows) c.in_err-text.ensures.cause)

pub returns-in_err-checked-clause-answer : goal.returns-in_err-checked-clause-answer
returns-in_err-checked-clause-answer g c input told =
    let e = err_from_is_err_and c.from_residual.result c.from_residual.ensures.1 in
    rw (e.1, e.2) (
    not_checked c.args.profile input (g.S.Source.seen c.args.reader.now).bytes (g.S.Source.seen c.check.new.reader).bytes
    (g.S.Source.seen c.args.reader.now).failures (g.S.Source.seen c.check.new.reader).failures c.in_err-checked.field-0.0 (c.in_err-checked.ensures.verdict input told) c.in_err-checked.ensures.cause)

pub returns-in_err-text-clause-answer : goal.returns-in_err-text-clause-answer
returns-in_err-text-clause-answer g c input told =
    let e = err_from_is_err_and c.from_residual-in_err-text.result c.from_residual-in_err-text.ensures.1 in
    rw (e.1, e.2) (
    text_refused c.args.profile input c.in_ok-checked.checked (c.in_ok-checked.ensures.verdict input told) (g.S.Source.seen c.args.reader.now).bytes (g.S.Source.seen c.check.new.reader).bytes (g.S.Source.seen c.read_text.new.source).bytes
    c.in_err-text.field-0.0 told c.in_ok-checked.ensures.read c.in_err-text.ensures.fault)

pub returns-clause-cause : goal.returns-clause-cause
returns-clause-cause g c =
    outcome_cause (g.S.Source.seen c.args.reader.now) (g.S.Source.seen c.read_text.new.source) (recs (records_in c.in_ok-checked.checked.bytes)) c.deref.result.now c.of.result c.of.ensures
    (unbroken_on (g.S.Source.seen c.args.reader.now) (g.S.Source.seen c.check.new.reader) (g.S.Source.seen c.read_text.new.source) (c.in_ok-checked.ensures.patient, c.in_ok-checked.ensures.grows) c.in_ok-text.ensures.cause)

pub returns-clause-answer : goal.returns-clause-answer
returns-clause-answer g c input told =
    text_answered c.args.profile input c.in_ok-checked.checked (c.in_ok-checked.ensures.verdict input told) (g.S.Source.seen c.args.reader.now).bytes (g.S.Source.seen c.check.new.reader).bytes (g.S.Source.seen c.read_text.new.source).bytes
    c.in_ok-text.text.items c.deref.result.now c.of.result told c.in_ok-checked.ensures.read c.in_ok-text.ensures.text c.deref.ensures.value c.of.ensures

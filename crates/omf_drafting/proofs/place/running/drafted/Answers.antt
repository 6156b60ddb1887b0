use Rattle.std.proofs.Common.{sym, subst}
use Rattle.std.proofs.lemmas.Result.{err_from_is_err_and}
use Rattle.std.specs.Io.KnownBytes.{Consumes}
use Rattle.std.specs.Prelude.{string_bytes}
use Rattle.omf_records.specs.Inner.Seen.{map_ok}
use Rattle.omf_check.specs.Module.{records_in}
use Rattle.omf_check.specs.WellFormed.{recs}
use Rattle.omf_cmd.proofs.RunLaws.{check_cause, check_fault}
use Rattle.omf_drafting.specs.Place.Runs.{any}
use Rattle.omf_drafting.specs.Suiting.{module_options}
use Rattle.omf_drafting.proofs.PlaceRuns.{not-checked, is-drafted, drafted-cause}
use Rattle.omf_drafting.proofs.place.running.drafted.Goals as goal

pub returns-in_err-checked-clause-cause : goal.returns-in_err-checked-clause-cause
returns-in_err-checked-clause-cause g c =
    let e = err_from_is_err_and c.from_residual.result c.from_residual.ensures.1 in
    rw (e.1, e.2) (
      check_cause any (g.S.Source.seen c.args.reader.now) (g.S.Source.seen c.check.new.reader) c.in_err-checked.field-0.0
          c.in_err-checked.ensures.grows c.in_err-checked.ensures.patient c.in_err-checked.ensures.cause,
      check_fault c.in_err-checked.field-0.0,
    )

pub returns-in_err-checked-clause-answer : goal.returns-in_err-checked-clause-answer
returns-in_err-checked-clause-answer g c input told =
    let e = err_from_is_err_and c.from_residual.result c.from_residual.ensures.1 in
    rw (e.1, e.2) (
    not-checked c.args.asked input (g.S.Source.seen c.args.reader.now).bytes (g.S.Source.seen c.check.new.reader).bytes
    (g.S.Source.seen c.args.reader.now).failures (g.S.Source.seen c.check.new.reader).failures c.in_err-checked.field-0.0 (c.in_err-checked.ensures.verdict input told) c.in_err-checked.ensures.cause)

pub returns-clause-cause : goal.returns-clause-cause
returns-clause-cause g c =
    drafted-cause (module_options (recs (records_in c.in_ok-checked.checked.bytes)) c.args.asked) (recs (records_in c.in_ok-checked.checked.bytes)) (g.S.Source.seen c.args.reader.now) (g.S.Source.seen c.check.new.reader) (map_ok (λ text. string_bytes text) c.placed_text.result)
    (c.in_ok-checked.ensures.patient, c.in_ok-checked.ensures.grows) c.placed_text.ensures

pub returns-clause-answer : goal.returns-clause-answer
returns-clause-answer g c input told =
    let a = c.in_ok-checked.ensures.verdict input told in
    let old = (g.S.Source.seen c.args.reader.now).bytes in
    let new = (g.S.Source.seen c.check.new.reader).bytes in
    is-drafted c.args.asked input (records_in c.in_ok-checked.checked.bytes) old new (map_ok (λ text. string_bytes text) c.placed_text.result)
    (record { accepted = a.1.0; read = subst (Consumes old new) (sym a.1.1) c.in_ok-checked.ensures.read }) c.placed_text.ensures

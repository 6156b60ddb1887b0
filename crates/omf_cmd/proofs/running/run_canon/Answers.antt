use Rattle.std.proofs.Common.{[]}
use Rattle.std.proofs.lemmas.Result.{err_from_is_err_and}
use Rattle.omf_cmd.specs.Inner.Names.{canonical_text}
use Rattle.omf_cmd.specs.Runs.{Prints}
use Rattle.omf_cmd.proofs.RunLaws.{none_printed, not_reported, reported}
use Rattle.omf_cmd.proofs.running.run_canon.Goals as goal

pub returns-in_err-checked : goal.returns-in_err-checked
returns-in_err-checked g c =
    let e = err_from_is_err_and c.from_residual.result c.from_residual.ensures.1 in
    let h = c.in_err-checked.ensures in
    let writer = g.K.Sink.seen c.args.writer.now in
    let none = not_reported Prints canonical_text c.args.profile (g.S.Source.seen c.args.reader.now) (g.S.Source.seen c.check.new.reader) writer c.in_err-checked.field-0.0
    (none_printed writer.bytes c.in_err-checked.field-0.0 (canonical_text [])) h.verdict h.cause h.patient h.grows in
    rw (e.1, e.2) record { cause = none.cause; «module» = none.fault; prints = none.prints }

pub returns : goal.returns
returns g c =
    let h = c.in_ok-checked.ensures in
    let one = reported Prints canonical_text c.args.profile (g.S.Source.seen c.args.reader.now) (g.S.Source.seen c.check.new.reader) (g.K.Sink.seen c.args.writer.now) (g.K.Sink.seen c.print_canonical.new.writer)
    c.in_ok-checked.checked h.verdict h.read h.patient h.grows c.print_canonical.result c.print_canonical.ensures.prints c.print_canonical.ensures.cause in
    record { cause = one.cause; «module» = one.fault; prints = one.prints }

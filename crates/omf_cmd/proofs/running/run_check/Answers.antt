use Rattle.std.proofs.Common.{[], ◌∙◌, ap, length}
use Rattle.std.proofs.lemmas.Result.{err_from_is_err_and}
use Rattle.omf_check.proofs.JudgingLaws.{judged_fault, judged_module, judged_patiently}
use Rattle.omf_check.specs.Module.{records_in}
use Rattle.omf_cmd.specs.Listing.{check_text}
use Rattle.omf_cmd.specs.Runs.{Prints}
use Rattle.omf_cmd.proofs.RunLaws.{none_printed, not_reported, reported}
use Rattle.omf_cmd.proofs.running.run_check.Goals as goal

pub returns-in_err-judged : goal.returns-in_err-judged
returns-in_err-judged g c =
    let e = err_from_is_err_and c.from_residual.result c.from_residual.ensures.1 in
    let h = c.in_err-judged.ensures in
    let why = c.in_err-judged.field-0.0 in
    let old = g.S.Source.seen c.args.reader.now in
    let new = g.S.Source.seen c.judge.new.reader in
    let writer = g.K.Sink.seen c.args.writer.now in
    let none = not_reported Prints check_text c.args.profile old new writer why
    (none_printed writer.bytes why (check_text [])) (λ input told. judged_fault c.args.profile input why (h.verdict input told)) h.cause (judged_patiently old new why h.patient) h.grows in
    rw (e.1, e.2) record { cause = none.cause; «module» = none.fault; prints = none.prints }

pub returns : goal.returns
returns g c =
    let h = c.in_ok-judged.ensures in
    let old = g.S.Source.seen c.args.reader.now in
    let new = g.S.Source.seen c.judge.new.reader in
    let read = h.read in
    let printed = c.print_check.ensures.prints (records_in read.bytes) read.record_count (read.size ∙ ap length read.well_formed.framed.spelled) in
    let one = reported Prints check_text c.args.profile old new (g.K.Sink.seen c.args.writer.now) (g.K.Sink.seen c.print_check.new.writer)
    (record { bytes = read.bytes; profile = c.args.profile }) (judged_module c.args.profile old.bytes new.bytes c.in_ok-judged.judged read) read.read h.patient h.grows c.print_check.result printed c.print_check.ensures.cause in
    record { cause = one.cause; «module» = one.fault; prints = one.prints }

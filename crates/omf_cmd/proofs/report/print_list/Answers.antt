use Rattle.std.proofs.Common.{◌++◌, ap, subst, List, ℕ}
use Rattle.std.proofs.lemmas.Result.{err_from_is_err_and}
use Rattle.omf_check.specs.Module.{records_in}
use Rattle.omf_cmd.specs.Listing.{list_text}
use Rattle.omf_cmd.specs.Runs.{IsPart}
use Rattle.omf_cmd.specs.Inner.Printing.{IsWrittenUpTo}
use Rattle.omf_cmd.proofs.Pieces.{cause_later, part_printed, rest_printed}
use Rattle.omf_cmd.proofs.report.print_list.Goals as goal

pub returns-in_err-print_lines-clause-prints : goal.returns-in_err-print_lines-clause-prints
returns-in_err-print_lines-clause-prints g c =
    let e = err_from_is_err_and c.from_residual.result c.from_residual.ensures.1 in
    let old = g.K.Sink.seen c.args.writer.now in
    let new = g.K.Sink.seen c.print_lines.new.writer in
    let whole = ap (λ (t : List ℕ). t ++ list_text (records_in c.args.checked.now.bytes)) c.new-text.ensures.items in
    rw (e.1, e.2) (part_printed _ _ _ _ old new c.in_err-print_lines.ensures.cause (subst (IsPart old.bytes new.bytes) whole c.in_err-print_lines.ensures.passes))

pub returns-clause-prints : goal.returns-clause-prints
returns-clause-prints g c =
    let old = (g.K.Sink.seen c.args.writer.now).bytes in
    let mid = (g.K.Sink.seen c.print_lines.new.writer).bytes in
    let whole = ap (λ (t : List ℕ). t ++ list_text (records_in c.args.checked.now.bytes)) c.new-text.ensures.items in
    rest_printed _ _ _ _ _ _ c.write_all.result (subst (λ (t : List ℕ). IsWrittenUpTo old mid t (c.print_lines.new.text.items)) whole c.in_ok-print_lines.ensures.passes) c.as_slice.ensures.value c.write_all.ensures.fault c.write_all.ensures.prints

pub returns-clause-cause : goal.returns-clause-cause
returns-clause-cause g c =
    cause_later (g.K.Sink.seen c.args.writer.now) (g.K.Sink.seen c.print_lines.new.writer) (g.K.Sink.seen c.write_all.new.writer) c.write_all.result
    c.in_ok-print_lines.ensures.cause c.write_all.ensures.cause

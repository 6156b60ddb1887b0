use Rattle.std.proofs.Common.{[]}
use Rattle.std.proofs.lemmas.Result.{err_from_is_err_and}
use Rattle.omf_cmd.proofs.Pieces.{nothing_printed, nothing_relocated}
use Rattle.omf_cmd.proofs.RunLaws.{print_caused, read_caused}
use Rattle.omf_cmd.proofs.relocation.run_reloc.Goals as goal

pub returns-in_err-listing-clause-cause : goal.returns-in_err-listing-clause-cause
returns-in_err-listing-clause-cause g c =
    let e = err_from_is_err_and c.from_residual.result c.from_residual.ensures.1 in
    rw (e.1, e.2) (read_caused (g.S.Source.seen c.args.reader.now) (g.S.Source.seen c.listed.new.reader) (g.K.Sink.seen c.args.writer.now) c.in_err-listing.field-0.0 c.in_err-listing.ensures.cause)

pub returns-clause-cause : goal.returns-clause-cause
returns-clause-cause g c =
    print_caused (g.S.Source.seen c.args.reader.now) (g.S.Source.seen c.listed.new.reader) (g.K.Sink.seen c.args.writer.now) (g.K.Sink.seen c.print.new.writer) c.print.result c.in_ok-listing.ensures.cause c.print.ensures.cause

pub returns-in_err-listing-clause-prints : goal.returns-in_err-listing-clause-prints
returns-in_err-listing-clause-prints g c =
    let e = err_from_is_err_and c.from_residual.result c.from_residual.ensures.1 in
    rw (e.1, e.2) (
      [],
      nothing_printed (g.K.Sink.seen c.args.writer.now).bytes c.in_err-listing.field-0.0,
      λ input told. nothing_relocated c.args.profile input (g.S.Source.seen c.args.reader.now).bytes (g.S.Source.seen c.listed.new.reader).bytes c.in_err-listing.field-0.0 (c.in_err-listing.ensures.answer input told),
    )

use Rattle.std.proofs.Common.{◌∙◌}
use Rattle.std.proofs.lemmas.Result.{err_from_is_err_and}
use Rattle.omf_image.specs.Inner.Joined.{runs_of}
use Rattle.omf_image.specs.Overlay.{byte_at}
use Rattle.omf_cmd.specs.Inner.Names.{start_line}
use Rattle.omf_cmd.specs.Inner.RunLines.{segments_text}
use Rattle.omf_cmd.proofs.Pieces.{begun_empty, cause_later, kept_back, part_printed, passed_on, rest_printed, stopped}
use Rattle.omf_cmd.proofs.image_text.print_image.Goals as goal

pub returns-in_err-print_segments-clause-prints : goal.returns-in_err-print_segments-clause-prints
returns-in_err-print_segments-clause-prints g c =
    let e = err_from_is_err_and c.from_residual.result c.from_residual.ensures.1 in
    let held = (g.K.Sink.seen c.args.writer.now).bytes in
    let shown = segments_text c.args.segments (byte_at c.args.image.now) (runs_of c.args.image.now) in
    let begun = begun_empty held shown (start_line c.args.start) (c.new-text.result.items) c.new-text.ensures.items in
    rw (e.1, e.2) (part_printed _ _ _ _ (g.K.Sink.seen c.args.writer.now) (g.K.Sink.seen c.print_segments.new.writer) c.in_err-print_segments.ensures.cause (stopped _ _ _ _ _ _ begun c.in_err-print_segments.ensures.passes))

pub returns-in_err-print_start-clause-prints : goal.returns-in_err-print_start-clause-prints
returns-in_err-print_start-clause-prints g c =
    let e = err_from_is_err_and c.from_residual-in_err-print_start.result c.from_residual-in_err-print_start.ensures.1 in
    let held = (g.K.Sink.seen c.args.writer.now).bytes in
    let shown = segments_text c.args.segments (byte_at c.args.image.now) (runs_of c.args.image.now) in
    let begun = begun_empty held shown (start_line c.args.start) (c.new-text.result.items) c.new-text.ensures.items in
    rw (e.1, e.2) (kept_back _ _ _ _ (passed_on _ _ _ _ _ _ _ begun c.in_ok-print_segments.ensures.passes))

pub returns-clause-prints : goal.returns-clause-prints
returns-clause-prints g c =
    let held = (g.K.Sink.seen c.args.writer.now).bytes in
    let shown = segments_text c.args.segments (byte_at c.args.image.now) (runs_of c.args.image.now) in
    let begun = begun_empty held shown (start_line c.args.start) (c.new-text.result.items) c.new-text.ensures.items in
    rest_printed _ _ _ _ _ _ c.write_all.result (passed_on _ _ _ _ _ _ _ begun c.in_ok-print_segments.ensures.passes) (c.as_slice.ensures.value ∙ c.in_ok-print_start.ensures.put) c.write_all.ensures.fault c.write_all.ensures.prints

pub returns-clause-cause : goal.returns-clause-cause
returns-clause-cause g c =
    cause_later (g.K.Sink.seen c.args.writer.now) (g.K.Sink.seen c.print_segments.new.writer) (g.K.Sink.seen c.write_all.new.writer) c.write_all.result
    c.in_ok-print_segments.ensures.cause c.write_all.ensures.cause

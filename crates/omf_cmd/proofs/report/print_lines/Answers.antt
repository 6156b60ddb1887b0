use Rattle.std.proofs.Common.{◌++◌, []}
use Rattle.std.specs.Prelude.{flat_map}
use Rattle.omf_frame.specs.Bytes.{with_before}
use Rattle.omf_records.specs.Values.{Rec}
use Rattle.omf_check.specs.Module.{records_in}
use Rattle.omf_check.specs.WellFormed.{recs}
use Rattle.omf_cmd.specs.Inner.Names.{external_lines, group_lines, segment_lines, record_line}
use Rattle.omf_cmd.specs.Listing.{public_lines}
use Rattle.omf_cmd.proofs.Pieces.{begun_in_parts, last_part, part_done, part_stopped}
use Rattle.omf_cmd.proofs.report.print_lines.Goals as goal

pub returns-in_err-print_records-clause-passes : goal.returns-in_err-print_records-clause-passes
returns-in_err-print_records-clause-passes g c =
    let records = records_in c.args.checked.now.bytes in
    let m = recs records in
    let publics = flat_map (λ (r : Rec). public_lines r.contents) m in
    let s0 = begun_in_parts (g.K.Sink.seen c.args.writer.now).bytes (c.args.text.now.items) (with_before record_line [] records) (segment_lines m) (group_lines m) (external_lines m) publics in
    part_stopped _ _ _ _ (c.args.text.now.items) (with_before record_line [] records) (segment_lines m ++ (group_lines m ++ (external_lines m ++ publics))) _ c.from_residual.result c.from_residual.ensures.0 s0 c.in_err-print_records.ensures.passes

pub returns-in_err-print_segments-clause-passes : goal.returns-in_err-print_segments-clause-passes
returns-in_err-print_segments-clause-passes g c =
    let records = records_in c.args.checked.now.bytes in
    let m = recs records in
    let publics = flat_map (λ (r : Rec). public_lines r.contents) m in
    let s0 = begun_in_parts (g.K.Sink.seen c.args.writer.now).bytes (c.args.text.now.items) (with_before record_line [] records) (segment_lines m) (group_lines m) (external_lines m) publics in
    let s1 = part_done _ _ _ _ (c.args.text.now.items) (with_before record_line [] records) (segment_lines m ++ (group_lines m ++ (external_lines m ++ publics))) _ s0 c.in_ok-print_records.ensures.passes in
    part_stopped _ _ _ _ (c.print_records.new.text.items) (segment_lines m) (group_lines m ++ (external_lines m ++ publics)) _ c.from_residual-in_err-print_segments.result c.from_residual-in_err-print_segments.ensures.0 s1 c.in_err-print_segments.ensures.passes

pub returns-in_err-print_groups-clause-passes : goal.returns-in_err-print_groups-clause-passes
returns-in_err-print_groups-clause-passes g c =
    let records = records_in c.args.checked.now.bytes in
    let m = recs records in
    let publics = flat_map (λ (r : Rec). public_lines r.contents) m in
    let s0 = begun_in_parts (g.K.Sink.seen c.args.writer.now).bytes (c.args.text.now.items) (with_before record_line [] records) (segment_lines m) (group_lines m) (external_lines m) publics in
    let s1 = part_done _ _ _ _ (c.args.text.now.items) (with_before record_line [] records) (segment_lines m ++ (group_lines m ++ (external_lines m ++ publics))) _ s0 c.in_ok-print_records.ensures.passes in
    let s2 = part_done _ _ _ _ (c.print_records.new.text.items) (segment_lines m) (group_lines m ++ (external_lines m ++ publics)) _ s1 c.in_ok-print_segments.ensures.passes in
    part_stopped _ _ _ _ (c.print_segments.new.text.items) (group_lines m) (external_lines m ++ publics) _ c.from_residual-in_err-print_groups.result c.from_residual-in_err-print_groups.ensures.0 s2 c.in_err-print_groups.ensures.passes

pub returns-in_err-print_externals-clause-passes : goal.returns-in_err-print_externals-clause-passes
returns-in_err-print_externals-clause-passes g c =
    let records = records_in c.args.checked.now.bytes in
    let m = recs records in
    let publics = flat_map (λ (r : Rec). public_lines r.contents) m in
    let s0 = begun_in_parts (g.K.Sink.seen c.args.writer.now).bytes (c.args.text.now.items) (with_before record_line [] records) (segment_lines m) (group_lines m) (external_lines m) publics in
    let s1 = part_done _ _ _ _ (c.args.text.now.items) (with_before record_line [] records) (segment_lines m ++ (group_lines m ++ (external_lines m ++ publics))) _ s0 c.in_ok-print_records.ensures.passes in
    let s2 = part_done _ _ _ _ (c.print_records.new.text.items) (segment_lines m) (group_lines m ++ (external_lines m ++ publics)) _ s1 c.in_ok-print_segments.ensures.passes in
    let s3 = part_done _ _ _ _ (c.print_segments.new.text.items) (group_lines m) (external_lines m ++ publics) _ s2 c.in_ok-print_groups.ensures.passes in
    part_stopped _ _ _ _ (c.print_groups.new.text.items) (external_lines m) publics _ c.from_residual-in_err-print_externals.result c.from_residual-in_err-print_externals.ensures.0 s3 c.in_err-print_externals.ensures.passes

pub returns-clause-passes : goal.returns-clause-passes
returns-clause-passes g c =
    let records = records_in c.args.checked.now.bytes in
    let m = recs records in
    let publics = flat_map (λ (r : Rec). public_lines r.contents) m in
    let s0 = begun_in_parts (g.K.Sink.seen c.args.writer.now).bytes (c.args.text.now.items) (with_before record_line [] records) (segment_lines m) (group_lines m) (external_lines m) publics in
    let s1 = part_done _ _ _ _ (c.args.text.now.items) (with_before record_line [] records) (segment_lines m ++ (group_lines m ++ (external_lines m ++ publics))) _ s0 c.in_ok-print_records.ensures.passes in
    let s2 = part_done _ _ _ _ (c.print_records.new.text.items) (segment_lines m) (group_lines m ++ (external_lines m ++ publics)) _ s1 c.in_ok-print_segments.ensures.passes in
    let s3 = part_done _ _ _ _ (c.print_segments.new.text.items) (group_lines m) (external_lines m ++ publics) _ s2 c.in_ok-print_groups.ensures.passes in
    let s4 = part_done _ _ _ _ (c.print_groups.new.text.items) (external_lines m) publics _ s3 c.in_ok-print_externals.ensures.passes in
    last_part _ _ _ _ _ _ c.print_publics.result s4 c.print_publics.ensures.passes

use Rattle.std.proofs.Common.{Some, sym, ◌∙◌}
use Rattle.omf_frame.specs.declared.kinds.RecordType.TheVariants.{Ledata}
use Rattle.omf_records.specs.Inner.RecordReaders.{data_whole}
use Rattle.omf_records.specs.Inner.Seen.{map_ok}
use Rattle.omf_records.specs.Values.{Plain}
use Rattle.omf_records.proofs.AtStart.{at_start, ledata_type, plain_read}
use Rattle.omf_records.proofs.dispatch.plain_data.Goals as goal

pub returns-then-is_ledata-clause-read : goal.returns-then-is_ledata-clause-read
returns-then-is_ledata-clause-read c =
    let h = c.start.result in
    at_start (Some Ledata) (map_ok Plain c.plain_data_at.result) c.args.raw.now.kind h c.args.raw.now.body.now
    c.start.ensures.place c.start.ensures.width c.start.ensures.bytes
    (ledata_type c.args.raw.now.kind (sym c.is_ledata.ensures ∙ c.if-is_ledata.true)) (plain_read c.plain_data_at.result ((data_whole h.wide).read h.within h.bytes.now) c.plain_data_at.ensures)

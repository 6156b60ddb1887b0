use Rattle.omf_check.specs.Module.{records_in}
use Rattle.omf_dump.proofs.AnswerLaws.{module_records}
use Rattle.omf_dump.proofs.answer.dump_module.Goals as goal

pub dump-requires : goal.dump-requires
dump-requires g c = record {
  records = (
    records_in c.args.checked.now.bytes,
    module_records c.args.checked.now.profile c.args.checked.now.bytes c.bytes.result.now c.record_count-count.result c.bytes.ensures.bytes c.bytes.ensures.well_formed c.record_count-count.ensures
        c.record_count-count.type_inv,
  );
  start = c.nothing_known-known.ensures;
}

pub returns : goal.returns
returns g c =
    c.dump.ensures.text (records_in c.args.checked.now.bytes)
    (module_records c.args.checked.now.profile c.args.checked.now.bytes c.bytes.result.now c.record_count-count.result c.bytes.ensures.bytes c.bytes.ensures.well_formed c.record_count-count.ensures c.record_count-count.type_inv)

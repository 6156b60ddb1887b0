use Rattle.std.proofs.Common.{◌+◌, ap, drop, false}
use Rattle.omf_check.specs.Module.{records_in, typed_modules}
use Rattle.omf_check.specs.WellFormed.{recs}
use Rattle.omf_externals.specs.Names.{all_names, public_names, IsNameTable}
use Rattle.omf_placement.proofs.Filling.{fill-more, fill-end}
use Rattle.omf_externals.proofs.NameLaws.{fill-empty, next-one, none-left}
use Rattle.omf_externals.proofs.names.NameTable.of.Goals as goal

pub loop-module-preserved : goal.loop-module-preserved
loop-module-preserved c =
    let ms = c.args.modules.now in
    let j = c.loop-module.module-index in
    fill-more IsNameTable (record { names = c.new.result; repeats = false }) c.loop-module.table c.add_module.new.self (public_names false (recs (records_in c.module-item.result.bytes))) (all_names (typed_modules (drop j ms))) (all_names (typed_modules (drop (j + 1) ms))) (all_names (typed_modules ms))
    (ap all_names (next-one ms j c.module-item.result c.module-item.is c.loop-module-test.true)) c.in_ok-add_module.ensures c.loop-module.invariant

pub returns : goal.returns
returns c =
    let ms = c.args.modules.now in
    let j = c.loop-module.module-index in
    fill-empty (record { names = c.new.result; repeats = false }) c.loop-module.table (all_names (typed_modules ms)) c.new.ensures.empty
    (fill-end IsNameTable (record { names = c.new.result; repeats = false }) c.loop-module.table (all_names (typed_modules (drop j ms))) (all_names (typed_modules ms)) (ap all_names (none-left ms j c.loop-module-test.false)) c.loop-module.invariant)

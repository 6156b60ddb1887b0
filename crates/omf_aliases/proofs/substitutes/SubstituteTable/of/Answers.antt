use Rattle.std.proofs.Common.{◌+◌, ap, drop}
use Rattle.omf_check.specs.Module.{recs_of, typed_modules}
use Rattle.omf_library.specs.Aliases.{alias_pairs}
use Rattle.omf_placement.proofs.Filling.{fill-more, fill-end}
use Rattle.omf_aliases.specs.Aliases.{all_pairs}
use Rattle.omf_aliases.specs.Inner.Aliases.{IsSubstituteTable}
use Rattle.omf_aliases.proofs.AliasLaws.{all-pairs-in}
use Rattle.omf_externals.proofs.NameLaws.{next-one, none-left}
use Rattle.omf_aliases.proofs.substitutes.SubstituteTable.of.Goals as goal

pub loop-module-preserved : goal.loop-module-preserved
loop-module-preserved c =
    let ms = c.args.modules.now in
    let j = c.loop-module.module-index in
    fill-more IsSubstituteTable (record { by_alias = c.new.result }) c.loop-module.table c.add_module.new.self (alias_pairs (recs_of c.module-item.result.bytes)) (all_pairs (typed_modules (drop j ms))) (all_pairs (typed_modules (drop (j + 1) ms))) (all_pairs (typed_modules ms))
    (ap all_pairs (next-one ms j c.module-item.result c.module-item.is c.loop-module-test.true)) c.in_ok-add_module.ensures c.loop-module.invariant

pub returns : goal.returns
returns c =
    let ms = c.args.modules.now in
    let j = c.loop-module.module-index in
    all-pairs-in (record { by_alias = c.new.result }) c.loop-module.table (all_pairs (typed_modules ms)) c.new.ensures.empty
    (fill-end IsSubstituteTable (record { by_alias = c.new.result }) c.loop-module.table (all_pairs (typed_modules (drop j ms))) (all_pairs (typed_modules ms)) (ap all_pairs (none-left ms j c.loop-module-test.false)) c.loop-module.invariant)

use Rattle.std.proofs.Common.{◌+◌, take}
use Rattle.std.specs.Prelude.{map}
use Rattle.omf_library.specs.Needed.{linkage}
use Rattle.omf_library.proofs.NeededLaws.{table-given, take-map_more}
use Rattle.omf_library.proofs.needed.search.Definers.of_given.Goals as goal

pub loop-module-preserved : goal.loop-module-preserved
loop-module-preserved c =
    let ms = c.args.modules.now in
    let i = c.loop-module.module-index in
    table-given c.loop-module.definers c.add_module.new.self (take i (map linkage ms)) (take (i + 1) (map linkage ms)) (linkage c.module-item.result)
    (take-map_more linkage ms i c.module-item.result c.module-item.is c.loop-module-test.true) c.in_ok-add_module.ensures c.loop-module.invariant

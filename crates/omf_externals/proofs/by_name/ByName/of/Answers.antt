use Rattle.std.proofs.Common.{◌+◌, ap, drop, refl}
use Rattle.std.specs.Prelude.{flat_map}
use Rattle.std.specs.List.{enumerate_from}
use Rattle.omf_check.specs.Module.{records_in, typed_modules}
use Rattle.omf_check.specs.WellFormed.{recs}
use Rattle.omf_externals.specs.Unresolved.{IsByName, all_rows, module_rows}
use Rattle.omf_placement.proofs.Filling.{fill-start, fill-more, fill-end}
use Rattle.omf_externals.proofs.NameLaws.{next-one, none-left}
use Rattle.omf_externals.proofs.UnresolvedLaws.{fill-empty}
use Rattle.omf_externals.proofs.by_name.ByName.of.Goals as goal

pub loop-j-init : goal.loop-j-init
loop-j-init c = fill-start IsByName c.new.result _ _ refl

pub loop-j-preserved : goal.loop-j-preserved
loop-j-preserved c =
    let ms = c.args.modules.now in
    let j = c.loop-j.j in
    fill-more IsByName c.new.result c.loop-j.table.spots c.add_module.new.self.spots (module_rows (j, recs (records_in c.index-modules-j.result.bytes))) (flat_map module_rows (enumerate_from j (typed_modules (drop j ms))))
    (flat_map module_rows (enumerate_from (j + 1) (typed_modules (drop (j + 1) ms)))) (all_rows (typed_modules ms))
    (ap (λ xs. flat_map module_rows (enumerate_from j xs)) (next-one ms j c.index-modules-j.result c.index-modules-j.is c.loop-j-test.true)) c.in_ok-add_module.ensures c.loop-j.invariant

pub returns : goal.returns
returns c =
    let ms = c.args.modules.now in
    let j = c.loop-j.j in
    fill-empty c.new.result c.loop-j.table.spots (all_rows (typed_modules ms)) c.new.ensures.empty
    (fill-end IsByName c.new.result c.loop-j.table.spots (flat_map module_rows (enumerate_from j (typed_modules (drop j ms)))) (all_rows (typed_modules ms))
    (ap (λ xs. flat_map module_rows (enumerate_from j xs)) (none-left ms j c.loop-j-test.false)) c.loop-j.invariant)

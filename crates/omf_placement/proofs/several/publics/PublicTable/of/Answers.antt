use Rattle.std.proofs.Common.{◌+◌, refl, ap, drop, false}
use Rattle.omf_check.specs.Module.{records_in}
use Rattle.omf_check.specs.WellFormed.{recs}
use Rattle.omf_placement.specs.Derive.{publics, all_publics, placed_modules}
use Rattle.omf_placement.specs.Inner.PublicTable.{IsTable}
use Rattle.omf_placement.proofs.Filling.{fill-start, fill-more, fill-end}
use Rattle.omf_placement.proofs.TableLaws.{fill-empty, next-placed, none-left}
use Rattle.omf_placement.proofs.several.publics.PublicTable.of.Goals as goal

pub loop-j-init : goal.loop-j-init
loop-j-init c = fill-start IsTable c.new.result _ _ refl

pub loop-j-preserved : goal.loop-j-preserved
loop-j-preserved c =
    let ms = c.args.modules.now in
    let pls = c.args.placements.now in
    let j = c.loop-j.j in
    fill-more IsTable c.new.result c.loop-j.table.by_name c.add_module.new.self.by_name (publics false (recs (records_in c.index-modules-j.result.bytes), c.index-placements-j.result)) (all_publics (drop j (placed_modules ms pls)))
    (all_publics (drop (j + 1) (placed_modules ms pls))) (all_publics (placed_modules ms pls))
    (ap all_publics (next-placed ms pls j c.index-modules-j.result c.index-placements-j.result c.index-modules-j.is c.index-placements-j.is c.loop-j-test.true c.requires))
    c.in_ok-add_module.ensures c.loop-j.invariant

pub returns : goal.returns
returns c =
    let ms = c.args.modules.now in
    let pls = c.args.placements.now in
    fill-empty c.new.result c.loop-j.table.by_name (all_publics (placed_modules ms pls)) c.new.ensures.empty
    (fill-end IsTable c.new.result c.loop-j.table.by_name (all_publics (drop c.loop-j.j (placed_modules ms pls))) _ (ap all_publics (none-left ms pls c.loop-j.j c.loop-j-test.false)) c.loop-j.invariant)

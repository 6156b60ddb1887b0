use Rattle.std.proofs.Common.{◌≡◌, ◌+◌, ◌∷◌, ap, drop}
use Rattle.std.specs.Prelude.{flat_map}
use Rattle.omf_check.specs.Module.{records_in}
use Rattle.omf_check.specs.WellFormed.{recs}
use Rattle.omf_placement.specs.Derive.{PlacedModule, placed_modules}
use Rattle.omf_placement.proofs.Filling.{fill-more, fill-end}
use Rattle.omf_placement.proofs.TableLaws.{next-placed, none-left}
use Rattle.omf_output.specs.Exe.Derived.{lows, lows_in, IsLowTable}
use Rattle.omf_output.proofs.LowLaws.{fill-empty}
use Rattle.omf_output.proofs.exe.groups.LowTable.of.Goals as goal

pub loop-j-preserved : goal.loop-j-preserved
loop-j-preserved c =
    let ms = placed_modules c.args.modules.now c.args.places.now in
    let j = c.loop-j.j in
    let m : PlacedModule = (recs (records_in c.index-modules-j.result.bytes), c.index-places-j.result) in
    let next : drop j ms ≡ m ∷ drop (j + 1) ms
    = next-placed c.args.modules.now c.args.places.now j c.index-modules-j.result c.index-places-j.result c.index-modules-j.is c.index-places-j.is c.loop-j-test.true c.requires in
    fill-more IsLowTable c.new.result c.loop-j.table.by_name c.add_module.new.self.by_name (lows_in m) (flat_map lows_in (drop j ms)) _ _
    (ap (flat_map lows_in) next) c.in_ok-add_module.ensures c.loop-j.invariant

pub returns : goal.returns
returns c =
    let ms = placed_modules c.args.modules.now c.args.places.now in
    fill-empty c.new.result c.loop-j.table.by_name (lows ms) c.new.ensures.empty
    (fill-end IsLowTable c.new.result c.loop-j.table.by_name _ _ (ap (flat_map lows_in) (none-left c.args.modules.now c.args.places.now c.loop-j.j c.loop-j-test.false)) c.loop-j.invariant)

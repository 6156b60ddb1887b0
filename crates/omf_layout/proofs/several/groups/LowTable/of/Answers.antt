use Rattle.std.proofs.Common.{ap, drop, subst}
use Rattle.std.specs.Prelude.{map, zip, flat_map}
use Rattle.omf_check.specs.Module.{records_in, typed_modules}
use Rattle.omf_check.specs.WellFormed.{recs}
use Rattle.omf_layout.specs.Several.Placing.{HasMore, lows, lows_in, IsLowTable}
use Rattle.omf_placement.proofs.Filling.{fill-more, fill-end}
use Rattle.omf_layout.proofs.SeveralLaws.LowLaws.{fill-empty, next-placed, none-placed}
use Rattle.omf_layout.proofs.several.groups.LowTable.of.Goals as goal

pub loop-j-preserved : goal.loop-j-preserved
loop-j-preserved c =
    let ms = c.args.modules.now in
    let vs = c.args.places.now in
    let j = c.loop-j.j in
    let m = c.index-modules-j.result in
    let v = c.index-places-j.result in
    let added = subst (λ xs. HasMore c.loop-j.table.by_name c.add_module.new.self.by_name (lows_in (recs (records_in m.bytes), xs))) c.deref.ensures.value c.in_ok-add_module.ensures in
    fill-more IsLowTable c.new.result c.loop-j.table.by_name c.add_module.new.self.by_name (lows_in (recs (records_in m.bytes), v.items)) (flat_map lows_in (drop j (zip (typed_modules ms) (map (λ s. s.items) vs)))) _ _
    (ap (flat_map lows_in) (next-placed ms vs j m v c.index-modules-j.is c.index-places-j.is c.loop-j-test.true c.requires)) added c.loop-j.invariant

pub returns : goal.returns
returns c =
    let ms = c.args.modules.now in
    let vs = c.args.places.now in
    fill-empty c.new.result c.loop-j.table.by_name (lows (typed_modules ms) (map (λ s. s.items) vs)) c.new.ensures.empty
    (fill-end IsLowTable c.new.result c.loop-j.table.by_name _ _ (ap (flat_map lows_in) (none-placed ms vs c.loop-j.j c.loop-j-test.false)) c.loop-j.invariant)

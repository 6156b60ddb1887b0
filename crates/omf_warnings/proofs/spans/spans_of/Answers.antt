use Rattle.std.proofs.Common.{◌≡◌, ◌+◌, ◌∷◌, drop, ap}
use Rattle.std.specs.Prelude.{map, flat_map}
use Rattle.std.specs.List.{enumerate_from}
use Rattle.omf_check.specs.Module.{records_in}
use Rattle.omf_check.specs.WellFormed.{recs}
use Rattle.omf_layout.proofs.Gathered.{more-given, all-given}
use Rattle.omf_placement.specs.Derive.{PlacedModule, placed_modules}
use Rattle.omf_placement.proofs.TableLaws.{next-placed, none-left}
use Rattle.omf_warnings.specs.Lying.{lyings_in, seen}
use Rattle.omf_warnings.proofs.spans.spans_of.Goals as goal

pub loop-j-preserved : goal.loop-j-preserved
loop-j-preserved c =
    let ms = placed_modules c.args.modules.now c.args.placements.now in
    let j = c.loop-j.j in
    let m : PlacedModule = (recs (records_in c.index-modules-j.result.bytes), c.index-placements-j.result) in
    let next : drop j ms ≡ m ∷ drop (j + 1) ms
    = next-placed c.args.modules.now c.args.placements.now j c.index-modules-j.result c.index-placements-j.result c.index-modules-j.is c.index-placements-j.is c.loop-j-test.true c.requires.placed in
    more-given (map seen c.loop-j.spans.items) (map seen c.add_spans.new.spans.items) _ _ _ _ c.in_ok-add_spans.ensures
    (ap (λ xs. flat_map lyings_in (enumerate_from j xs)) next) c.loop-j.invariant

pub returns : goal.returns
returns c =
    let ms = placed_modules c.args.modules.now c.args.placements.now in
    let j = c.loop-j.j in
    all-given (map seen c.loop-j.spans.items) _ _ (ap (λ xs. flat_map lyings_in (enumerate_from j xs)) (none-left c.args.modules.now c.args.placements.now j c.loop-j-test.false)) c.loop-j.invariant

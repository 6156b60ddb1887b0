use Rattle.std.proofs.Common.{◌≡◌, ◌∙◌, sym, ap, true}
use Rattle.omf_check.specs.Module.{records_in}
use Rattle.omf_check.specs.WellFormed.{recs}
use Rattle.omf_placement.specs.Derive.{PlacedModule, publics, seen_publics, placed_modules}
use Rattle.omf_placement.specs.Inner.PublicTable.{found_among}
use Rattle.omf_placement.proofs.SearchLaws.{next-same}
use Rattle.omf_placement.proofs.TableLaws.{next-placed}
use Rattle.omf_placement.proofs.several.search.found_for.Goals as goal

pub returns-then-local : goal.returns-then-local
returns-then-local c = λ m h.
    let ms = placed_modules c.args.modules.now c.args.placements.now in
    let name = c.args.name.now in
    let n : PlacedModule = (recs (records_in c.index-modules-j.result.bytes), c.index-placements-j.result) in
    let same : n ≡ m = next-same ms c.args.j n m (next-placed c.args.modules.now c.args.placements.now c.args.j c.index-modules-j.result c.index-placements-j.result c.index-modules-j.is c.index-placements-j.is c.requires.within c.requires.placed) h in
    c.after_module.ensures ∙ ap (λ x. found_among name (publics true x)) same ∙ ap (λ b. found_among name (seen_publics ms m b)) (sym c.if-local.true)

use Rattle.std.proofs.Common.{◌+◌, ◌∙◌, sym, ap, drop, false}
use Rattle.omf_check.specs.Module.{records_in}
use Rattle.omf_check.specs.WellFormed.{recs}
use Rattle.omf_placement.specs.Derive.{publics, all_publics, placed_modules}
use Rattle.omf_placement.specs.Inner.PublicTable.{found_over}
use Rattle.omf_placement.proofs.SearchLaws.{found-append}
use Rattle.omf_placement.proofs.TableLaws.{next-placed, none-left}
use Rattle.omf_placement.proofs.several.search.found_in_all.Goals as goal

pub loop-j-preserved : goal.loop-j-preserved
loop-j-preserved c =
    let ms = c.args.modules.now in
    let pls = c.args.placements.now in
    let j = c.loop-j.j in
    let name = c.args.name.now in
    let rest = all_publics (drop (j + 1) (placed_modules ms pls)) in
    ap (λ f. found_over name f rest) c.after_module-found.ensures
    ∙ sym (found-append name c.loop-j.found (publics false (recs (records_in c.index-modules-j.result.bytes), c.index-placements-j.result)) rest)
    ∙ ap (λ xs. found_over name c.loop-j.found (all_publics xs)) (sym (next-placed ms pls j c.index-modules-j.result c.index-placements-j.result c.index-modules-j.is c.index-placements-j.is c.loop-j-test.true c.requires))
    ∙ c.loop-j.invariant

pub returns : goal.returns
returns c =
    ap (λ xs. found_over c.args.name.now c.loop-j.found (all_publics xs)) (sym (none-left c.args.modules.now c.args.placements.now c.loop-j.j c.loop-j-test.false)) ∙ c.loop-j.invariant

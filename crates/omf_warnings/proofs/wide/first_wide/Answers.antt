use Rattle.std.proofs.Common.{◌≡◌, ℕ, ◌+◌, ◌∷◌, ◌∙◌, drop, ap, sym}
use Rattle.std.specs.List.{enumerate_from}
use Rattle.omf_check.specs.Module.{records_in}
use Rattle.omf_check.specs.WellFormed.{recs}
use Rattle.omf_placement.specs.Derive.{PlacedModule, placed_modules}
use Rattle.omf_placement.proofs.TableLaws.{next-placed, none-left}
use Rattle.omf_warnings.specs.Wide.{wide_in_module}
use Rattle.omf_warnings.proofs.WideLaws.{first_found, first_later, first_none}
use Rattle.omf_warnings.proofs.wide.first_wide.Goals as goal

pub returns-in-Some : goal.returns-in-Some
returns-in-Some c =
    let ms = placed_modules c.args.modules.now c.args.placements.now in
    let j = c.loop-j.j in
    let m : PlacedModule = (recs (records_in c.index-modules-j.result.bytes), c.index-placements-j.result) in
    let next : drop j ms ≡ m ∷ drop (j + 1) ms
    = next-placed c.args.modules.now c.args.placements.now j c.index-modules-j.result c.index-placements-j.result c.index-modules-j.is c.index-placements-j.is c.loop-j-test.true c.requires.placed in
    first_found (λ (x : ℕ × PlacedModule). wide_in_module x.0 x.1) (enumerate_from j (drop j ms)) (j, m) (enumerate_from (j + 1) (drop (j + 1) ms)) c.in-Some.found _ (ap (enumerate_from j) next) (sym c.in_module.ensures ∙ c.in-Some.is) c.loop-j.invariant

pub loop-j-preserved : goal.loop-j-preserved
loop-j-preserved c =
    let ms = placed_modules c.args.modules.now c.args.placements.now in
    let j = c.loop-j.j in
    let m : PlacedModule = (recs (records_in c.index-modules-j.result.bytes), c.index-placements-j.result) in
    let next : drop j ms ≡ m ∷ drop (j + 1) ms
    = next-placed c.args.modules.now c.args.placements.now j c.index-modules-j.result c.index-placements-j.result c.index-modules-j.is c.index-placements-j.is c.loop-j-test.true c.requires.placed in
    first_later (λ (x : ℕ × PlacedModule). wide_in_module x.0 x.1) (enumerate_from j (drop j ms)) (j, m) (enumerate_from (j + 1) (drop (j + 1) ms)) _ (ap (enumerate_from j) next) (sym c.in_module.ensures ∙ c.in_default.is) c.loop-j.invariant

pub returns : goal.returns
returns c =
    let ms = placed_modules c.args.modules.now c.args.placements.now in
    let j = c.loop-j.j in
    first_none (λ (x : ℕ × PlacedModule). wide_in_module x.0 x.1) (enumerate_from j (drop j ms)) _ (ap (enumerate_from j) (none-left c.args.modules.now c.args.placements.now j c.loop-j-test.false)) c.loop-j.invariant

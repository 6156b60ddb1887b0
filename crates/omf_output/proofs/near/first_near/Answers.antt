use Rattle.std.proofs.Common.{◌∙◌, ap, sym}
use Rattle.omf_placement.specs.Derive.{placed_modules}
use Rattle.omf_output.specs.Near.{stray_in}
use Rattle.omf_output.proofs.NearLaws.{found-left, later-left, nothing-left}
use Rattle.omf_output.proofs.near.first_near.Goals as goal

pub returns-in-Some : goal.returns-in-Some
returns-in-Some c =
    let all = placed_modules c.args.modules.now c.args.placements.now in
    found-left all c.loop-j.j c.args.modules.now c.args.placements.now c.index-modules-j.result c.index-placements-j.result c.in-Some.found c.index-modules-j.is c.index-placements-j.is c.loop-j-test.true c.requires.placed
    (ap (λ xs. stray_in xs c.loop-j.j c.index-modules-j.result c.index-placements-j.result) (sym c.in_ok-all.ensures) ∙ sym c.in_ok-found.ensures ∙ c.in-Some.is) ∙ c.loop-j.invariant

pub loop-j-preserved : goal.loop-j-preserved
loop-j-preserved c =
    let all = placed_modules c.args.modules.now c.args.placements.now in
    later-left all c.loop-j.j c.args.modules.now c.args.placements.now c.index-modules-j.result c.index-placements-j.result c.index-modules-j.is c.index-placements-j.is c.loop-j-test.true c.requires.placed
    (ap (λ xs. stray_in xs c.loop-j.j c.index-modules-j.result c.index-placements-j.result) (sym c.in_ok-all.ensures) ∙ sym c.in_ok-found.ensures ∙ c.in_default.is) ∙ c.loop-j.invariant

pub returns : goal.returns
returns c =
    let all = placed_modules c.args.modules.now c.args.placements.now in
    nothing-left all c.loop-j.j c.args.modules.now c.args.placements.now c.loop-j-test.false ∙ c.loop-j.invariant

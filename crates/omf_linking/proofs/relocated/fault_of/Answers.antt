use Rattle.std.proofs.Common.{◌≡◌, ◌+◌, ◌∷◌, drop, sym}
use Rattle.omf_check.specs.Module.{records_in}
use Rattle.omf_check.specs.WellFormed.{recs}
use Rattle.omf_placement.specs.Derive.{PlacedModule, placed_modules}
use Rattle.omf_placement.proofs.TableLaws.{next-placed, none-left}
use Rattle.omf_linking.specs.Relocated.{far_modules, first_fault}
use Rattle.omf_linking.proofs.RelocatedLaws.{one_near, one_far, none_far}
use Rattle.omf_linking.proofs.relocated.fault_of.Goals as goal

pub returns-in-Err : goal.returns-in-Err
returns-in-Err c =
    let ms = placed_modules c.args.modules.now c.args.placements.now in
    let j = c.loop-j.j in
    let m : PlacedModule = (recs (records_in c.index-modules-j.result.bytes), c.index-placements-j.result) in
    let next : drop j ms ≡ m ∷ drop (j + 1) ms
    = next-placed c.args.modules.now c.args.placements.now j c.index-modules-j.result c.index-placements-j.result c.index-modules-j.is c.index-placements-j.is c.loop-j-test.true c.requires.placed in
    one_far first_fault ms j m next (far_modules ms) c.in-Err.fault (sym c.in-Err.ensures) c.loop-j.invariant

pub loop-j-preserved : goal.loop-j-preserved
loop-j-preserved c =
    let ms = placed_modules c.args.modules.now c.args.placements.now in
    let j = c.loop-j.j in
    let m : PlacedModule = (recs (records_in c.index-modules-j.result.bytes), c.index-placements-j.result) in
    let next : drop j ms ≡ m ∷ drop (j + 1) ms
    = next-placed c.args.modules.now c.args.placements.now j c.index-modules-j.result c.index-placements-j.result c.index-modules-j.is c.index-placements-j.is c.loop-j-test.true c.requires.placed in
    one_near first_fault ms j m next (far_modules ms) (sym c.in_default.ensures) c.loop-j.invariant

pub returns : goal.returns
returns c =
    let ms = placed_modules c.args.modules.now c.args.placements.now in
    none_far first_fault ms c.loop-j.j (none-left c.args.modules.now c.args.placements.now c.loop-j.j c.loop-j-test.false) c.loop-j.invariant

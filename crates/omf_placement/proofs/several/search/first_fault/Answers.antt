use Rattle.std.proofs.Common.{◌∷◌, ◌++◌, [], refl, sym, subst}
use Rattle.std.specs.Prelude.{IsOk, None}
use Rattle.omf_placement.specs.Derive.{placed_modules, seen_publics}
use Rattle.omf_placement.specs.Inner.Derived.{external_places}
use Rattle.omf_placement.specs.Inner.Deriving.{IsFaultOf}
use Rattle.omf_placement.proofs.LinkageLaws.{module-placed, module-fails, modules-placed}
use Rattle.omf_placement.proofs.SearchLaws.{next-exists}
use Rattle.omf_placement.proofs.TableLaws.{none-left}
use Rattle.omf_placement.proofs.several.search.first_fault.Goals as goal

pub returns-in-Some : goal.returns-in-Some
returns-in-Some c =
    let ms = placed_modules c.args.modules.now c.args.placements.now in
    let j = c.loop-j.j in
    let n = next-exists c.args.modules.now c.args.placements.now j c.loop-j-test.true c.requires.placed in
    module-fails ms c.args.given.now j n.0 n.1 c.in-Some.fault c.loop-j.invariant.0 (c.in-Some.ensures n.0 n.1) c.loop-j.invariant.1

pub loop-j-preserved : goal.loop-j-preserved
loop-j-preserved c =
    let ms = placed_modules c.args.modules.now c.args.placements.now in
    let given = c.args.given.now in
    let j = c.loop-j.j in
    let n = next-exists c.args.modules.now c.args.placements.now j c.loop-j-test.true c.requires.placed in
    let found : IsFaultOf (external_places (seen_publics ms n.0) given j n.0.0) None = subst (IsFaultOf (external_places (seen_publics ms n.0) given j n.0.0)) c.in_default.is (c.fault_in.ensures n.0 n.1) in
    (c.loop-j.invariant.0 ++ found.0 ∷ [], module-placed ms given j n.0 n.1 found.0 c.loop-j.invariant.0 (c.loop-j.invariant.0 ++ found.0 ∷ []) found.1 refl c.loop-j.invariant.1)

pub returns : goal.returns
returns c =
    let ms = placed_modules c.args.modules.now c.args.placements.now in
    let given = c.args.given.now in
    let all = modules-placed ms given c.loop-j.invariant.0 c.loop-j.j (none-left c.args.modules.now c.args.placements.now c.loop-j.j c.loop-j-test.false) c.loop-j.invariant.1 in
    subst IsOk (sym all) refl

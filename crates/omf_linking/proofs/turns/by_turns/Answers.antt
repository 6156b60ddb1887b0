use Rattle.std.proofs.Common.{◌≡◌, ◌∙◌, ◌+◌, ◌∷◌, arith, drop, subst, sym}
use Rattle.std.proofs.lemmas.List.{length-map}
use Rattle.omf_check.specs.Module.{records_in, recs_of, typed_modules}
use Rattle.omf_check.specs.WellFormed.{recs}
use Rattle.omf_placement.specs.Derive.{PlacedModule, placed_modules}
use Rattle.omf_placement.proofs.TableLaws.{next-placed, none-left}
use Rattle.omf_linking.specs.Inner.Turning.{IsBegun}
use Rattle.omf_linking.proofs.PlacesLaws.{next-of}
use Rattle.omf_linking.proofs.TurnLaws.{none_taken, taken_next, all_finished}
use Rattle.omf_linking.proofs.turns.by_turns.Goals as goal

pub loop-j-init : goal.loop-j-init
loop-j-init c =
    let ms = placed_modules c.args.modules.now c.args.placements.now in
    let is = c.in-Ok.intervals.items in
    none_taken ms c.args.stored.now is c.in-Ok-no_modules.turns (subst (λ xs. IsBegun xs c.in-Ok-no_modules.turns) c.deref.ensures.value c.in-Ok-no_modules.ensures)

pub loop-j-preserved : goal.loop-j-preserved
loop-j-preserved c =
    let ms = placed_modules c.args.modules.now c.args.placements.now in
    let j = c.loop-j.j in
    let m : PlacedModule = (recs (records_in c.index-modules-j.result.bytes), c.index-placements-j.result) in
    let next : drop j ms ≡ m ∷ drop (j + 1) ms
    = next-placed c.args.modules.now c.args.placements.now j c.index-modules-j.result c.index-placements-j.result c.index-modules-j.is c.index-placements-j.is c.loop-j-test.true c.requires.placed in
    let at = c.args.stored.now in
    let more : drop j at ≡ c.index-stored-j.result ∷ drop (j + 1) at = next-of at j c.index-stored-j.result c.index-stored-j.is (omega (arith, c.loop-j-test.true, c.requires.stored)) in
    taken_next ms at c.in-Ok.intervals.items j m c.index-stored-j.result c.loop-j.turns c.take.new.self next more c.in_ok-take.ensures c.loop-j.invariant

pub returns : goal.returns
returns c =
    all_finished (typed_modules c.args.modules.now) c.args.placements.now c.args.stored.now c.in-Ok.intervals.items c.deref-2.result.now c.loop-j.j c.loop-j.turns c.finish.result c.deref-2.ensures.value
    (c.requires.placed ∙ sym (length-map c.args.modules.now (λ x. recs_of x.bytes))) (none-left c.args.modules.now c.args.placements.now c.loop-j.j c.loop-j-test.false) c.loop-j.invariant c.finish.ensures

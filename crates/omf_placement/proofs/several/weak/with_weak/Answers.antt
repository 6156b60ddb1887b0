use Rattle.std.proofs.Common.{◌≡◌, ◌+◌, ◌∷◌, ◌∙◌, ◌++◌, ap, append-nil, drop, refl, sym}
use Rattle.std.specs.Prelude.{flat_map}
use Rattle.std.specs.List.{enumerate_from}
use Rattle.omf_check.specs.Module.{records_in, typed_modules}
use Rattle.omf_check.specs.WellFormed.{recs}
use Rattle.omf_placement.specs.Derive.{PlacedModule, placed_modules}
use Rattle.omf_placement.specs.Weak.{weak_given, weak_in}
use Rattle.omf_placement.proofs.TableLaws.{next-placed, none-left}
use Rattle.omf_placement.proofs.WeakLaws.{entries_more, no_entries, none_given}
use Rattle.omf_placement.proofs.several.weak.with_weak.Goals as goal

pub loop-j-init : goal.loop-j-init
loop-j-init c = ap (λ xs. xs ++ weak_given (placed_modules c.args.modules.now c.args.places.now) c.args.given.now) (c.in_ok-entries.ensures.items_if_clones_equal (λ x y e. e))

pub loop-j-preserved : goal.loop-j-preserved
loop-j-preserved c =
    let ms = placed_modules c.args.modules.now c.args.places.now in
    let given = c.args.given.now in
    let j = c.loop-j.j in
    let m : PlacedModule = (recs (records_in c.index-modules-j.result.bytes), c.index-places-j.result) in
    let next : drop j ms ≡ m ∷ drop (j + 1) ms
    = next-placed c.args.modules.now c.args.places.now j c.index-modules-j.result c.index-places-j.result c.index-modules-j.is c.index-places-j.is c.loop-j-test.true c.requires.placed in
    entries_more c.loop-j.entries.items c.put_module.new.entries.items (weak_in ms given (j, m)) _ _ _
    (c.in_ok-put_module.ensures ms given m refl c.in_ok-of.ensures c.in_ok-of-2.ensures) (ap (λ xs. flat_map (weak_in ms given) (enumerate_from j xs)) next) c.loop-j.invariant

pub returns : goal.returns
returns c =
    let ms = placed_modules c.args.modules.now c.args.places.now in
    no_entries c.loop-j.entries.items _ _ (ap (λ xs. flat_map (weak_in ms c.args.given.now) (enumerate_from c.loop-j.j xs)) (none-left c.args.modules.now c.args.places.now c.loop-j.j c.loop-j-test.false)) c.loop-j.invariant

pub returns-then-not-branch : goal.returns-then-not-branch
returns-then-not-branch c =
    let ms = placed_modules c.args.modules.now c.args.places.now in
    let given = c.args.given.now in
    let none = none_given ms given 0 (typed_modules c.args.modules.now) c.args.places.now (c.in_ok-has_pairs.ensures c.if-not-branch.true) in
    c.in_ok-entries.ensures.items_if_clones_equal (λ x y e. e) ∙ sym (ap (λ gs. given ++ gs) none ∙ append-nil given)

use Rattle.std.proofs.Common.{◌++◌, ◌∙◌, List, Bool, ap, append-nil, sym}
use Rattle.std.specs.Prelude.{map, zip}
use Rattle.std.proofs.lemmas.Option.{slice_get-get_or}
use Rattle.omf_output.specs.Exe.Derived.{marked}
use Rattle.omf_output.proofs.LowLaws.{more-of}
use Rattle.omf_placement.proofs.ListLaws.{entry-at, next-pair, no-pair}
use Rattle.omf_output.proofs.DerivingLaws.{none-paired}
use Rattle.omf_output.proofs.exe.groups.marks.Goals as goal

pub loop-before-preserved : goal.loop-before-preserved
loop-before-preserved c =
    let bs = c.deref-moves-items.result.now in
    let j = c.loop-before.before in
    more-of marked c.loop-before.marks.items c.push.new.self.items c.marked.result _ _ _ _ c.in_ok-push.ensures.items c.marked.ensures
    (next-pair bs c.args.placement.now.segments j _ c.in-Some.place (slice_get-get_or bs j _ c.loop-before-test.true) (sym (entry-at c.args.placement.now.segments j) ∙ sym c.segment.ensures ∙ c.in-Some.is))
    c.loop-before.invariant

pub returns-in_default : goal.returns-in_default
returns-in_default c =
    let xs = c.args.placement.now.segments in
    let bs = c.deref-moves-items.result.now in
    sym (append-nil c.loop-before.marks.items)
    ∙ ap (λ ys. c.loop-before.marks.items ++ map marked ys) (sym (none-paired bs xs c.loop-before.before (sym (entry-at xs c.loop-before.before) ∙ sym c.segment.ensures ∙ c.in_default.is)))
    ∙ c.loop-before.invariant ∙ ap (λ (cs : List Bool). map marked (zip cs xs)) (c.deref-moves-items.ensures.value ∙ c.in_ok-moving.ensures)

pub returns : goal.returns
returns c =
    let xs = c.args.placement.now.segments in
    let bs = c.deref-moves-items.result.now in
    sym (append-nil c.loop-before.marks.items)
    ∙ ap (λ ys. c.loop-before.marks.items ++ map marked ys) (sym (no-pair bs xs c.loop-before.before c.loop-before-test.false))
    ∙ c.loop-before.invariant ∙ ap (λ (cs : List Bool). map marked (zip cs xs)) (c.deref-moves-items.ensures.value ∙ c.in_ok-moving.ensures)

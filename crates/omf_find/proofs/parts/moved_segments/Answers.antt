use Rattle.std.proofs.Common.{◌≡◌, ◌+◌, ◌∙◌, List, take, sym, subst, ap, arith}
use Rattle.std.proofs.lemmas.List.{get_or_default}
use Rattle.omf_frame.specs.Bytes.{is_one_of}
use Rattle.omf_placement.specs.declared.frame.Placed.{Placed}
use Rattle.omf_find.specs.Parts.{AreKept}
use Rattle.omf_find.proofs.PartLaws.{one_more_kept, all_kept}
use Rattle.omf_find.proofs.parts.moved_segments.Goals as goal

pub loop-before-preserved : goal.loop-before-preserved
loop-before-preserved c =
    let absent = c.args.found.now.absent in
    let old = c.segments-places.result.now in
    let n = c.loop-before.before in
    let low = c.loop-before-test.true in
    let from : n + 1 ≡ 1 + n = omega arith in
    subst (λ (t : List Placed). AreKept absent 1 (take (n + 1) old) t) (sym c.in_ok-push.ensures.items)
    (one_more_kept absent 1 old c.loop-before.segments.items n _ c.moved.result (get_or_default old n _ _ low) low c.loop-before.invariant
    (λ a. c.moved.ensures (ap (is_one_of absent) from ∙ a)))

pub returns : goal.returns
returns c =
    let absent = c.args.found.now.absent in
    let kept = all_kept absent 1 c.segments-places.result.now c.loop-before.segments.items c.loop-before.before c.loop-before-test.false c.loop-before.invariant in
    subst (λ (t : List Placed). AreKept absent 1 t c.loop-before.segments.items) c.segments-places.ensures kept

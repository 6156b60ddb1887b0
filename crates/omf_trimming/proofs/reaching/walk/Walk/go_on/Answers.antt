use Rattle.std.proofs.Common.{◌≡◌, ◌<◌, ◌≤◌, ◌++◌, ◌∙◌, List, ap, length, get_or, sym, subst, rules}
use Rattle.std.specs.Prelude.{All}
use Rattle.omf_trimming.specs.Reaching.{Node, next, roots}
use Rattle.omf_trimming.specs.Inner.Reaching.{IsCalled, IsGrown}
use Rattle.omf_trimming.proofs.ReachLaws.{in-queue, kept-taken, looked-more, next-called, walked}
use Rattle.omf_trimming.proofs.reaching.walk.Walk.go_on.Goals as goal

pub loop-at-preserved : goal.loop-at-preserved
loop-at-preserved c =
    let s = c.loop-at.self in
    let t = c.reach_all.new.self in
    let at = c.loop-at.at in
    let n = c.index.result.now in
    let inside : at < length s.queue.items = search rules in
    let is : n ≡ get_or s.queue.items at n = search rules in
    record {
      so_far = λ o ms known w first.
          let before = c.loop-at.invariant.so_far o ms known w first in
          let q = in-queue o ms s.marks.items s.queue.items at n before.0 inside is in
          let list : c.deref.result.now ≡ next ms n = c.deref.ensures.value ∙ c.in_ok-push_next.ensures ms known q.0 ∙ ap (λ (xs : List Node). xs ++ next ms n) c.new-next.ensures.items in
          let g : IsGrown o ms s.marks.items s.queue.items t.marks.items t.queue.items (next ms n) =
          subst (IsGrown o ms s.marks.items s.queue.items t.marks.items t.queue.items) list (c.in_ok-reach_all.ensures.grown o ms before.0 (subst (All (IsCalled o ms)) (sym list) (next-called o ms n q.1))) in
          (g.walk, kept-taken ms s.marks.items t.marks.items (roots o ms) g.kept before.1, looked-more o ms s.marks.items t.marks.items s.queue.items t.queue.items at n inside is g before.2);
    }

pub returns : goal.returns
returns c = λ o ms known w first.
    let s = c.loop-at.self in
    let before = c.loop-at.invariant.so_far o ms known w first in
    let end : length s.queue.items ≤ c.loop-at.at = search rules in
    walked o ms s.marks.items s.queue.items c.loop-at.at before.0 before.1 end before.2

use Rattle.std.proofs.Common.{◌+◌, ◌≤◌, ◌∷◌, ◌∙◌, [], length, sym, subst, take, rules}
use Rattle.std.proofs.lemmas.List.{take_all}
use Rattle.omf_trimming.specs.Inner.Reaching.{IsCalled, IsGrown}
use Rattle.omf_trimming.proofs.ChoiceAllLaws.{take-more}
use Rattle.omf_trimming.proofs.ReachLaws.{grown-more, grown-one, total-one}
use Rattle.omf_trimming.proofs.reaching.walk.Walk.reach_all.Goals as goal

pub loop-segment-preserved : goal.loop-segment-preserved
loop-segment-preserved c =
    let ns = c.args.segments.now in
    let i = c.loop-segment.segment-index in
    let n = c.segment-item.result in
    let first = c.args.self.now in
    let s = c.loop-segment.self in
    let t = c.reach.new.self in
    record {
      grown = λ o ms w called.
          let g = c.loop-segment.invariant.grown o ms w called in
          grown-more o ms first.marks.items s.marks.items t.marks.items first.queue.items s.queue.items t.queue.items (take i ns) (n ∷ []) (take (i + 1) ns) (take-more ns i n c.segment-item.is c.loop-segment-test.true) g
          (grown-one o ms s.marks.items t.marks.items s.queue.items t.queue.items n g.walk (subst (IsCalled o ms) (sym c.segment-item.is) (called i n c.loop-segment-test.true)) c.in_ok-reach.ensures.marks c.in_ok-reach.ensures.queue);
      total = total-one s.marks.items t.marks.items s.queue.items t.queue.items n c.in_ok-reach.ensures.marks c.in_ok-reach.ensures.queue ∙ c.loop-segment.invariant.total;
    }

pub returns-clause-grown : goal.returns-clause-grown
returns-clause-grown c = λ o ms w called.
    let ns = c.args.segments.now in
    let first = c.args.self.now in
    let s = c.loop-segment.self in
    let end : length ns ≤ c.loop-segment.segment-index = search rules in
    subst (IsGrown o ms first.marks.items first.queue.items s.marks.items s.queue.items) (take_all c.loop-segment.segment-index ns end) (c.loop-segment.invariant.grown o ms w called)

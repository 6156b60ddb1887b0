use Rattle.std.proofs.Common.{◌∙◌, ap, sym, subst}
use Rattle.std.specs.Prelude.{All}
use Rattle.omf_trimming.specs.Inner.Reaching.{IsCalled, IsTaken}
use Rattle.omf_trimming.proofs.ReachLaws.{marks-start, no_marks, roots-called, walk-starts}
use Rattle.omf_trimming.proofs.reaching.walk.Walk.from.Goals as goal

pub returns : goal.returns
returns c = λ o ms e known f.
    let start = walk-starts o ms c.in_ok-no_marks.field-0.items c.new.result.items (c.in_ok-no_marks.ensures ∙ marks-start c.args.modules.now ∙ ap no_marks (sym e)) c.new.ensures.items in
    let g = c.in_ok-reach_all.ensures.grown o ms start (subst (All (IsCalled o ms)) (sym f) (roots-called o ms)) in
    c.in_ok-go_on.ensures o ms known g.walk (subst (All (IsTaken ms c.reach_all.new.self.marks.items)) f g.taken)

use Rattle.std.proofs.Common.{◌∙◌, ap, ap₂, sym}
use Rattle.std.specs.Prelude.{Some, bytes_eq}
use Rattle.omf_aliases.specs.Aliases.{most, next_name}
use Rattle.omf_aliases.specs.Circles.{back_among}
use Rattle.omf_aliases.proofs.CircleLaws.{back-end, back-here, back-none, back-step, no-front, with_names}
use Rattle.omf_aliases.proofs.circles.circle_of.Goals as goal

pub loop-left-init : goal.loop-left-init
loop-left-init c ms h = ap (λ xs. with_names xs (back_among ms c.args.first most c.args.first)) c.new-names.ensures.items ∙ no-front (back_among ms c.args.first most c.args.first)

pub returns-in_default : goal.returns-in_default
returns-in_default c ms h =
    back-none ms c.args.first c.loop-left.names.items c.loop-left.names.items c.loop-left.left c.loop-left.last c.next.result c.loop-left-test.true (c.next.ensures ms h ∙ ap (next_name ms) c.last.view_is) c.in_default.is
    ∙ c.loop-left.invariant ms h

pub returns-then-eq : goal.returns-then-eq
returns-then-eq c ms h =
    back-here ms c.args.first c.loop-left.names.items c.push.new.self.items c.loop-left.left c.loop-left.last c.in-Some.next c.next.result c.loop-left-test.true (c.next.ensures ms h ∙ ap (next_name ms) c.last.view_is) c.in-Some.is
    (ap₂ bytes_eq (sym c.next-in-loop-left.view_is) (sym c.first.view_is) ∙ sym c.eq.ensures ∙ c.if-eq.true) c.in_ok-push.ensures.items
    ∙ c.loop-left.invariant ms h

pub loop-left-preserved : goal.loop-left-preserved
loop-left-preserved c ms h =
    back-step ms c.args.first c.loop-left.names.items c.push.new.self.items c.loop-left.left c.loop-left.last _ c.next.result c.loop-left-test.true (c.next.ensures ms h ∙ ap (next_name ms) c.last.view_is)
    (c.in-Some.is ∙ ap Some (sym c.next-in-loop-left.view_is)) (ap (bytes_eq c.next-in-loop-left.inside.0.now) (sym c.first.view_is) ∙ sym c.eq.ensures ∙ c.if-eq.false) c.in_ok-push.ensures.items
    ∙ c.loop-left.invariant ms h

pub returns : goal.returns
returns c ms h = back-end ms c.args.first c.loop-left.names.items c.loop-left.names.items c.loop-left.left c.loop-left.last c.loop-left-test.false ∙ c.loop-left.invariant ms h

use Rattle.std.proofs.Common.{◌≡◌, ◌∙◌, ap, subst, sym}
use Rattle.std.specs.Prelude.{Some, IfOk, option_map}
use Rattle.std.proofs.lemmas.Result.{on_ok_weaker}
use Rattle.omf_externals.specs.Names.{has_name}
use Rattle.omf_aliases.specs.Circles.{circle_of}
use Rattle.omf_aliases.proofs.CircleLaws.{known, new_circle, no_circle}
use Rattle.omf_aliases.proofs.circles.Circles.put_of.Goals as goal

pub returns-then-has : goal.returns-then-has
returns-then-has c ms h = known ms c.args.self.now c.args.name.now c.has.result (λ names t. c.has.ensures names t ∙ ap (has_name names) c.name.view_is) c.if-has.true

pub returns-in-Some : goal.returns-in-Some
returns-in-Some c ms h =
    let found = subst (λ r. IfOk r (λ o. option_map (λ v. v.items) o ≡ circle_of ms c.name.inside.0.now)) c.in_ok-names.was (c.circle_of.ensures ms h) in
    on_ok_weaker c.put.result
    (λ p. new_circle ms c.args.self.now c.args.name.now c.has.result (λ names t. c.has.ensures names t ∙ ap (has_name names) c.name.view_is) c.put.new.self c.deref.result.now c.if-has.false
    (ap (circle_of ms) (sym c.name.view_is) ∙ sym found ∙ ap (option_map (λ v. v.items)) c.in-Some.is ∙ ap Some (sym c.deref.ensures.value)) p.shown p.lines)
    c.put.ensures

pub returns-in-None : goal.returns-in-None
returns-in-None c ms h =
    let found = subst (λ r. IfOk r (λ o. option_map (λ v. v.items) o ≡ circle_of ms c.name.inside.0.now)) c.in_ok-names.was (c.circle_of.ensures ms h) in
    no_circle ms c.args.self.now c.args.name.now c.has.result (λ names t. c.has.ensures names t ∙ ap (has_name names) c.name.view_is) c.if-has.false
    (ap (circle_of ms) (sym c.name.view_is) ∙ sym found ∙ ap (option_map (λ v. v.items)) c.in-None.is)

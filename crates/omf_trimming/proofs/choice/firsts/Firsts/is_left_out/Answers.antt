use Rattle.std.proofs.Common.{◌≡◌, ◌∙◌, ap, subst}
use Rattle.std.specs.Prelude.{IfOk, Option, Some}
use Rattle.omf_names.proofs.NameTables.{at_name, was_at}
use Rattle.omf_trimming.specs.Choice.{Marked, agrees_with, first_named}
use Rattle.omf_trimming.proofs.choice.firsts.Firsts.is_left_out.Goals as goal

pub returns-in-Some : goal.returns-in-Some
returns-in-Some c = λ before h.
    let t = c.args.self.now.by_name in
    let i : Marked = c.args.marked.now in
    let named : c.marked.inside.name.now ≡ i.name = ap (λ (x : Marked). x.name) c.marked.view_is in
    let found : Some c.in-Some.first.now ≡ at_name t c.marked.inside.name.now = was_at c.marked.inside.name c.of.result c.of.ensures t (Some c.in-Some.first.now) c.in-Some.ensures.value in
    let first : Some c.in-Some.first.now ≡ first_named before i.name = found ∙ ap (at_name t) named ∙ h i.name in
    subst (λ (o : Option Marked). IfOk c.agree.result (λ b. b ≡ agrees_with o i)) first c.agree.ensures

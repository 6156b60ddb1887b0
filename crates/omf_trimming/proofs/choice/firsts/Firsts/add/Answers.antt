use Rattle.std.proofs.Common.{◌≡◌, ◌∙◌, sym, ap, subst, false, List, ℕ}
use Rattle.std.specs.Prelude.{Some, is_some}
use Rattle.omf_names.proofs.NameTables.{IsUpdated, at_name, is_there, is_updated}
use Rattle.omf_trimming.specs.Choice.{Marked}
use Rattle.omf_trimming.proofs.ChoiceLaws.{firsts-known, firsts-new}
use Rattle.omf_trimming.proofs.choice.firsts.Firsts.add.Goals as goal

pub returns-in_ok-insert : goal.returns-in_ok-insert
returns-in_ok-insert c = λ before h.
    let t = c.args.self.now.by_name in
    let u = c.insert.new.self in
    let i : Marked = c.args.marked in
    let named : c.marked.inside.name.now ≡ i.name = ap (λ (x : Marked). x.name) c.marked.view_is in
    let there : c.contains_key.result ≡ is_some (at_name t c.marked.inside.name.now) = is_there c.marked.inside.name c.of.result c.of.ensures t c.contains_key.result c.contains_key.ensures in
    let absent : is_some (at_name t i.name) ≡ false = ap (λ (n : List ℕ). is_some (at_name t n)) (sym named) ∙ sym there ∙ c.if-not-contains_key.true in
    let up = is_updated c.marked.inside.name c.of-then-not-contains_key.result c.of-then-not-contains_key.ensures t u (Some i) c.in_ok-insert.ensures.updates in
    firsts-new t u before i h absent (subst (λ (n : List ℕ). IsUpdated n t u (Some i)) named up)

pub returns-else-not-contains_key : goal.returns-else-not-contains_key
returns-else-not-contains_key c = λ before h.
    let t = c.args.self.now.by_name in
    let i : Marked = c.args.marked in
    let named : c.marked.inside.name.now ≡ i.name = ap (λ (x : Marked). x.name) c.marked.view_is in
    let there : c.contains_key.result ≡ is_some (at_name t c.marked.inside.name.now) = is_there c.marked.inside.name c.of.result c.of.ensures t c.contains_key.result c.contains_key.ensures in
    firsts-known t before i h (ap (λ (n : List ℕ). is_some (at_name t n)) (sym named) ∙ sym there ∙ c.if-not-contains_key.false)

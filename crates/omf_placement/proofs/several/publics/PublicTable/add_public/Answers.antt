use Rattle.std.proofs.Common.{◌∙◌, ◌+◌, [], ◌∷◌, ap, ap₂, subst}
use Rattle.std.specs.Prelude.{OnOk}
use Rattle.omf_placement.specs.Derive.{public_at}
use Rattle.omf_placement.specs.Inner.PublicTable.{HasMore}
use Rattle.omf_placement.proofs.several.publics.PublicTable.add_public.Goals as goal

pub returns : goal.returns
returns c =
    subst (λ p. OnOk c.add.result (HasMore c.args.self.now.by_name c.add.new.self.by_name (p ∷ [])))
    (ap₂ (λ x y. public_at x y c.args.base.frame) (ap (λ q. q.name) c.public-inside.view_is ∙ ap (λ q. q.name) c.public.view_is)
    (ap₂ (λ x y. x + y) c.from.ensures (c.from-2.ensures ∙ ap (λ q. q.offset) c.public-inside.view_is ∙ ap (λ q. q.offset) c.public.view_is))) c.add.ensures

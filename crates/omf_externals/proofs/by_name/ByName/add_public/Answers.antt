use Rattle.std.proofs.Common.{◌∷◌, [], ◌∙◌, ap, subst}
use Rattle.std.specs.Prelude.{OnOk}
use Rattle.omf_externals.specs.Unresolved.{HasMore, spot}
use Rattle.omf_externals.proofs.by_name.ByName.add_public.Goals as goal

pub returns : goal.returns
returns c =
    subst (λ x. OnOk c.add.result (HasMore c.args.self.now.spots c.add.new.self.spots ((x, spot c.args.number 0) ∷ [])))
    (ap (λ q. q.name) c.public-inside.view_is ∙ ap (λ q. q.name) c.public.view_is) c.add.ensures

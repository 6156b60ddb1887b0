use Rattle.std.proofs.Common.{◌∷◌, [], ◌∙◌, ap, subst}
use Rattle.std.specs.Prelude.{OnOk}
use Rattle.omf_externals.specs.Names.{HasMore}
use Rattle.omf_externals.proofs.names.NameTable.add_public.Goals as goal

pub returns : goal.returns
returns c =
    subst (λ x. OnOk c.add.result (HasMore c.args.self.now c.add.new.self (x ∷ [])))
    (ap (λ q. q.name) c.public-inside.view_is ∙ ap (λ q. q.name) c.public.view_is) c.add.ensures

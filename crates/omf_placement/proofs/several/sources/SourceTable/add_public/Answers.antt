use Rattle.std.proofs.Common.{◌∙◌, [], ◌∷◌, ap, ap₂, subst}
use Rattle.std.specs.Prelude.{OnOk}
use Rattle.omf_placement.specs.Inner.Linkage.{HasMoreSources, source_at}
use Rattle.omf_placement.proofs.several.sources.SourceTable.add_public.Goals as goal

pub returns : goal.returns
returns c =
    subst (λ s. OnOk c.add.result (HasMoreSources c.args.self.now c.add.new.self (s ∷ [])))
    (ap₂ (λ x y. source_at x c.args.base.now y) (ap (λ q. q.name) c.public-inside.view_is ∙ ap (λ q. q.name) c.public.view_is)
    (ap (λ q. q.offset) c.public-inside.view_is ∙ ap (λ q. q.offset) c.public.view_is)) c.add.ensures

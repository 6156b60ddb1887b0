use Rattle.std.proofs.Common.{◌∙◌, ◌+◌, [], ◌∷◌, ap, ap₂, subst}
use Rattle.std.specs.Prelude.{OnOk, option_map}
use Rattle.omf_map.specs.Inner.PublicAddresses.{HasMore}
use Rattle.omf_map.specs.Addresses.{NamedAddress}
use Rattle.omf_map.proofs.publics.PublicAddresses.add_public.Goals as goal

pub returns : goal.returns
returns c =
    subst (λ (p : NamedAddress). OnOk c.add.result (HasMore c.args.self.now.by_name c.add.new.self.by_name (p ∷ [])))
    (ap₂ (λ x y. (x, y)) (ap (λ q. q.name) c.public-inside.view_is ∙ ap (λ q. q.name) c.public.view_is)
    (c.offset_from.ensures ∙ ap (λ x. option_map (λ b. b + x) c.args.base) (ap (λ q. q.offset) c.public-inside.view_is ∙ ap (λ q. q.offset) c.public.view_is))) c.add.ensures

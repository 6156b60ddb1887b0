use Rattle.std.proofs.Common.{◌∙◌, map, subst}
use Rattle.std.specs.Prelude.{OnOk}
use Rattle.omf_placement.proofs.Filling.{Adds}
use Rattle.omf_aliases.specs.Inner.Circles.{HasShown}
use Rattle.omf_aliases.proofs.circles.Circles.put_module.Goals as goal

pub returns : goal.returns
returns c ms h =
    subst (λ ps. OnOk c.put_pairs.result (Adds (HasShown ms) c.args.self.now c.put_pairs.new.self (map (λ p. p.alias) ps))) (c.deref.ensures.value ∙ c.in_ok-pairs.ensures) (c.put_pairs.ensures ms h)

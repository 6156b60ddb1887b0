use Rattle.std.proofs.Common.{◌≡◌, refl, ap, sym, ◌∙◌, Some}
use Rattle.omf_linker.specs.declared.link.words.Task.TheVariants.{Draft}
use Rattle.omf_linker.proofs.link.words.draft_named.Goals as goal

pub returns-clause-asks : goal.returns-clause-asks
returns-clause-asks c o a =
    let named : Some c.in_ok-options.options ≡ Some o = sym c.in_ok-options.was ∙ c.options_in.ensures a.real a.set ∙ a.named in
    let same : c.in_ok-options.options ≡ o = cc in
    ap (λ x. Some (Draft x)) same

pub returns-clause-only : goal.returns-clause-only
returns-clause-only c = (refl, λ real set. sym (c.options_in.ensures real set) ∙ c.in_ok-options.was)

use Rattle.std.proofs.Common.{◌∷◌, ◌∙◌, ap, drop, sym}
use Rattle.omf_placement.specs.Inner.Pairing.{front_index}
use Rattle.omf_placement.specs.Weak.{indices, paired}
use Rattle.omf_placement.proofs.WeakLaws.{next_pair}
use Rattle.omf_dump.proofs.facts.split_pair.Goals as goal

pub returns-clause-pair : goal.returns-clause-pair
returns-clause-pair c =
    let w = c.in_ok-weak.weak in
    let d = c.in_ok-substitute.substitute in
    let rest = c.split_at.ensures.back in
    next_pair c.args.text.now w d c.in_ok-weak.size c.in_ok-substitute.size c.in_ok-weak.ensures.pairing (c.in_ok-substitute.ensures.pairing ∙ ap front_index rest)
    ∙ ap (λ xs. record { weak = w; substitute = d } ∷ paired (indices xs)) (sym (c.split_at-2.ensures.back ∙ ap (drop c.in_ok-substitute.size) rest))

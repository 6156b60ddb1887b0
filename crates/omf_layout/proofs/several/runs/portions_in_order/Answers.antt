use Rattle.std.proofs.Common.{ap, ◌∙◌}
use Rattle.std.specs.Prelude.{map}
use Rattle.omf_layout.specs.Several.Order.{nameless_last}
use Rattle.omf_layout.specs.Several.Portions.{with_names}
use Rattle.omf_layout.proofs.SeveralLaws.NamelessLaws.{names-last-seen}
use Rattle.omf_layout.proofs.several.runs.portions_in_order.Goals as goal

pub returns : goal.returns
returns c =
    ap (map with_names) c.in_ok-ordered.ensures ∙ names-last-seen c.deref.result.now
    ∙ ap (λ ps. nameless_last (map with_names ps)) c.deref.ensures.value ∙ ap nameless_last c.in_ok-portions.ensures

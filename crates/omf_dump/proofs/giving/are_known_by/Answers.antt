use Rattle.std.proofs.Common.{List, ℕ, ap, ◌∙◌}
use Rattle.omf_dump.specs.Gives.{are_known}
use Rattle.omf_dump.proofs.giving.are_known_by.Goals as goal

pub returns : goal.returns
returns c = rw (← c.tables.view_is) (c.are_known.ensures ∙ ap (λ (names : List (List ℕ)). are_known names c.args.width c.args.kind c.args.body.now) c.deref.ensures.value)

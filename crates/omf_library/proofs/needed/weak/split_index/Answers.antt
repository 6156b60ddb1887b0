use Rattle.std.proofs.Common.{◌∙◌, ◌∷◌, ap, sym, arith}
use Rattle.omf_placement.specs.Weak.{indices}
use Rattle.omf_library.proofs.WeakLaws.{next_index, no_index}
use Rattle.omf_library.proofs.needed.weak.split_index.Goals as goal

pub returns-in_err-index-clause-none : goal.returns-in_err-index-clause-none
returns-in_err-index-clause-none c = rw c.from_residual.ensures (no_index c.args.text.now (λ i. omega (arith, c.type_inv.text i)) c.in_err-index.ensures.none)

pub returns-clause-some : goal.returns-clause-some
returns-clause-some c =
    next_index c.args.text.now c.in_ok-index.index c.in_ok-index.size c.in_ok-index.ensures.found
    ∙ ap (λ xs. c.in_ok-index.index ∷ indices xs) (sym c.split_at.ensures.back) ∙ ap (λ n. n ∷ indices c.split_at.result.1.now) (sym c.index.view_is)

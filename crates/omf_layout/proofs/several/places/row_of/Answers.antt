use Rattle.std.proofs.Common.{◌∙◌, ◌++◌, ◌∷◌, [], None, ap, sym, refl}
use Rattle.std.proofs.lemmas.List.FromFn.{map-range_with_len_more}
use Rattle.omf_layout.proofs.several.places.row_of.Goals as goal

pub loop-index-preserved : goal.loop-index-preserved
loop-index-preserved c =
    c.in_ok-push.ensures.items ∙ ap (λ xs. xs ++ None ∷ []) c.loop-index.invariant ∙ sym (map-range_with_len_more (λ i. None) 1 c.loop-index._index _ refl)

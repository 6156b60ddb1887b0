use Rattle.std.proofs.Common.{[], ◌∷◌, ◌∙◌, ap, sym, subst, ℕ}
use Rattle.omf_check.specs.Inner.Contents.{data_seen}
use Rattle.omf_image.specs.declared.painting.Extent.{Extent}
use Rattle.omf_reloc.specs.Inner.Measuring.{measured, CanMeasure}
use Rattle.omf_reloc.proofs.measuring.data_extent.Goals as goal

pub blocks_len-requires : goal.blocks_len-requires
blocks_len-requires c = subst (λ d. CanMeasure (data_seen d)) c.in-Iterated.is c.requires

pub returns-in-Iterated : goal.returns-in-Iterated
returns-in-Iterated c =
    let i = c.in-Iterated in
    ap (λ (e : Extent). e ∷ []) (c.extent_from-in-Iterated.ensures ∙ ap (λ (n : ℕ). let e : Extent = record { segment = i.segment.item; first = i.offset.item; len = n } in e) c.blocks_len.ensures)
    ∙ ap (λ d. measured (data_seen d)) (sym c.in-Iterated.is)

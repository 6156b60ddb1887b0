use Rattle.std.proofs.Common.{◌≡◌, ◌∙◌, ◌++◌, ap}
use Rattle.std.specs.Prelude.{filter_map, map}
use Rattle.std.specs.Vec.Iter.{into_iter_items}
use Rattle.omf_check.specs.Module.{typed_modules}
use Rattle.omf_layout.proofs.SeveralLaws.KnownLaws.{segments-known}
use Rattle.omf_layout.proofs.several.places.segments_of.Goals as goal

pub loop-row-init : goal.loop-row-init
loop-row-init c =
    let gives : into_iter_items c.into_iter-row-iterator.result ≡ c.in_ok-row-items.row-items.items = c.into_iter-row-iterator.ensures.into_iter_gives.0 in
    ap (λ places. map (λ r. r.items) places ++ map (filter_map (λ p. p)) (map (λ r. r.items) (into_iter_items c.into_iter-row-iterator.result))) c.in_ok-places.ensures.items
    ∙ ap (λ rows. map (filter_map (λ p. p)) (map (λ r. r.items) rows)) gives
    ∙ ap (map (filter_map (λ p. p))) c.in_ok-row-items.ensures ∙ segments-known c.args.lying.now (typed_modules c.args.modules.now)

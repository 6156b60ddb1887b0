use Rattle.std.proofs.Common.{◌∙◌, ap, sym, subst, refl, [], ◌∷◌}
use Rattle.std.specs.Prelude.{flat_map, slice_get}
use Rattle.omf_image.specs.Overlay.{AreLaidOver}
use Rattle.omf_image.specs.Limits.{profile_limits}
use Rattle.omf_image.specs.Painting.{all_zeros}
use Rattle.omf_check.specs.Module.{records_in}
use Rattle.omf_check.specs.WellFormed.{recs}
use Rattle.omf_reloc.specs.Inner.Measuring.{measured}
use Rattle.omf_reloc.specs.Inner.PieceSeen.{piece_seen}
use Rattle.omf_reloc.specs.Inner.ReachSteps.{pieces_far}
use Rattle.omf_reloc.specs.Inner.Walking.{Walk, open_place}
use Rattle.omf_reloc.specs.Inner.Widths.{fixupp_type}
use Rattle.omf_reloc.specs.Plain.{Fixed}
use Rattle.omf_reloc.proofs.FarLaws.{without_places, far-walked}
use Rattle.omf_reloc.proofs.MeasureLaws.{zeros-lost}
use Rattle.omf_reloc.proofs.WalkedLaws.{IsWalked, first-walk, walk-first, can-walk, go-on, walk-last, has-offsets}
use Rattle.omf_reloc.proofs.relocating.walked.Goals as goal

pub pieces-init : goal.pieces-init
pieces-init c =
    let pl = c.args.placement.now in
    let m = recs (records_in c.args.module.now.bytes) in
    let p = c.pieces_of-pieces in
    let none = ap (λ (v : Walk). open_place v.open_data) c.new-walk.ensures in
    record {
      walked = walk-first c.new-walk.result.image pl m p.ensures.holds c.new-walk.result (without_places p.result)
          (first-walk _ c.new-walk.result c.new-walk.ensures) p.ensures.listed;
      same = ap (λ o. slice_get (pieces_far pl o p.result) 0) none
          ∙ ap (λ fs. slice_get fs 0) (sym (far-walked pl profile_limits m p.ensures.holds p.result p.ensures.listed p.ensures.places));
    }

pub take_fixup-requires : goal.take_fixup-requires
take_fixup-requires c =
    let pl = c.args.placement.now in
    let m = recs (records_in c.args.module.now.bytes) in
    let w = c.pieces.walk in
    can-walk c.new-walk.result.image pl m c.pieces_of-pieces.ensures.holds w (Fixed (fixupp_type c.in-Some.width) (c.in-Some.fixup ∷ [])) (without_places c.next_direct.new.self)
    (subst (λ xs. IsWalked c.new-walk.result.image pl m w (without_places xs)) c.in-Some.ensures.some c.pieces.invariant.walked)

pub pieces-preserved-in-Some : goal.pieces-preserved-in-Some
pieces-preserved-in-Some c =
    go-on (c.in-Some.place, Fixed (fixupp_type c.in-Some.width) (c.in-Some.fixup ∷ [])) c.pieces_of-pieces.ensures.holds c.in-Some.ensures.some
    c.take_fixup.ensures.next c.take_fixup.ensures.cause c.in_default-take_fixup.is c.pieces.invariant

pub take-requires : goal.take-requires
take-requires c =
    let pl = c.args.placement.now in
    let m = recs (records_in c.args.module.now.bytes) in
    let w = c.pieces.walk in
    can-walk c.new-walk.result.image pl m c.pieces_of-pieces.ensures.holds w (piece_seen c.in-Some-next.piece) (without_places c.next.new.self)
    (subst (λ xs. IsWalked c.new-walk.result.image pl m w (without_places xs)) (sym c.in_default.ensures.none ∙ c.in-Some-next.ensures.steps) c.pieces.invariant.walked)

pub pieces-preserved : goal.pieces-preserved
pieces-preserved c =
    go-on (c.in-Some-next.place, piece_seen c.in-Some-next.piece) c.pieces_of-pieces.ensures.holds (sym c.in_default.ensures.none ∙ c.in-Some-next.ensures.steps)
    c.in_ok-cause.ensures.next c.in_ok-cause.ensures.cause c.in_default-2.is c.pieces.invariant

pub finish-requires : goal.finish-requires
finish-requires c =
    has-offsets c.new-walk.result.image c.args.placement.now (recs (records_in c.args.module.now.bytes)) c.pieces_of-pieces.ensures.holds c.pieces.walk
    (without_places c.pieces.pieces) c.pieces.invariant.walked

pub returns-in_default-next-clause-laid : goal.returns-in_default-next-clause-laid
returns-in_default-next-clause-laid c =
    let pl = c.args.placement.now in
    let m = recs (records_in c.args.module.now.bytes) in
    let w = c.pieces.walk in
    let start = c.new-walk.result.image in
    let ended = subst (λ xs. IsWalked start pl m w (without_places xs)) (sym c.in_default.ensures.none ∙ c.in_default-next.ensures.steps.0) c.pieces.invariant.walked in
    let zeros = subst (AreLaidOver [] (all_zeros (flat_map measured m))) (sym (ap (λ (v : Walk). v.image) c.new-walk.ensures)) c.in_ok-zeros.ensures.zeros in
    zeros-lost pl m c.zeros_of.ensures.holds (flat_map measured m) start c.in_ok-finish.field-0 refl zeros
    (walk-last start pl m c.pieces_of-pieces.ensures.holds w c.in_ok-finish.field-0 ended c.in_ok-finish.ensures)

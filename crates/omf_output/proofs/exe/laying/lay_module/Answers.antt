use Rattle.std.proofs.Common.{◌∙◌, ap, sym, subst, length, refl}
use Rattle.std.specs.Prelude.{None}
use Rattle.omf_frame.specs.declared.fault.Place.{Place}
use Rattle.omf_reloc.specs.Plain.{Piece}
use Rattle.omf_check.specs.Module.{records_in}
use Rattle.omf_check.specs.WellFormed.{recs}
use Rattle.omf_reloc.specs.Inner.PieceSeen.{piece_seen}
use Rattle.omf_reloc.proofs.InsideLaws.{all-inside}
use Rattle.omf_output.specs.Inner.Laying.{AllCanLay, CanLay, all_laid}
use Rattle.omf_output.proofs.FitLaws.{all-end, module-can, step-can, step-same, without_places}
use Rattle.omf_output.proofs.LayingLaws.{module-laid}
use Rattle.omf_output.proofs.exe.laying.lay_module.Goals as goal

pub loop-place-init : goal.loop-place-init
loop-place-init c =
    let pl = c.args.placement.now in
    let m = recs (records_in c.args.module.now.bytes) in
    let p = c.pieces_of-place-items in
    let e = ap without_places c.into_iter-place-iterator.ensures.into_iter_gives ∙ p.ensures.listed in
    record {
      same = ap (λ ps. all_laid pl None ps c.args.image.now) e;
      can = subst (AllCanLay pl (length c.args.image.now) None) (sym e) (module-can pl (length c.args.image.now) m p.ensures.holds c.requires);
    }

pub take-requires : goal.take-requires
take-requires c =
    let pl = c.args.placement.now in
    let p = piece_seen c.in-Some.piece in
    subst (λ n. CanLay pl n c.loop-place.last p) (sym c.loop-place.auto.image)
    (step-can pl (length c.args.image.now) c.loop-place.last (c.in-Some._place, p) c.loop-place._place-iterator c.next.new.self c.in-Some.ensures.steps c.loop-place.invariant.can).0

pub loop-place-preserved : goal.loop-place-preserved
loop-place-preserved c =
    let pl = c.args.placement.now in
    let x : Place × Piece = (c.in-Some._place, piece_seen c.in-Some.piece) in
    let rest = c.next.new.self in
    let xs = c.loop-place._place-iterator in
    record {
      same = step-same pl c.loop-place.last c.in_ok-last.last x xs rest c.loop-place.image c.take.new.image _ c.in-Some.ensures.steps c.in_ok-last.ensures.image c.in_ok-last.ensures.last c.loop-place.invariant.same;
      can = subst (λ s. AllCanLay pl (length c.args.image.now) s (without_places rest)) (sym c.in_ok-last.ensures.last)
          (step-can pl (length c.args.image.now) c.loop-place.last x xs rest c.in-Some.ensures.steps c.loop-place.invariant.can).1;
    }

pub returns : goal.returns
returns c =
    let pl = c.args.placement.now in
    let m = recs (records_in c.args.module.now.bytes) in
    let n = length c.args.image.now in
    let holds = c.pieces_of-place-items.ensures.holds in
    λ mv.
    let ended = ap (λ xs. all_laid pl c.loop-place.last (without_places xs) c.loop-place.image) c.in-None.ensures.steps.0 in
    sym ended ∙ c.loop-place.invariant.same ∙ (module-laid mv pl m (all-inside pl m holds) n c.args.image.now refl (all-end mv pl n m holds c.requires)).same

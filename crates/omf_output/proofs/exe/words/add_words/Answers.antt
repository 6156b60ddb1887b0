use Rattle.std.proofs.Common.{◌∙◌, ap, map, sym, subst}
use Rattle.std.specs.Prelude.{All, None}
use Rattle.std.proofs.lemmas.List.Elements.{All-head, All-tail}
use Rattle.omf_check.specs.Listed.{placed_from}
use Rattle.omf_check.specs.Module.{records_in}
use Rattle.omf_check.specs.WellFormed.{recs}
use Rattle.omf_reloc.specs.Inner.Pieces.{placed_pieces}
use Rattle.omf_reloc.specs.Inner.PieceSeen.{piece_seen}
use Rattle.omf_output.specs.Inner.Taking.{CanTake}
use Rattle.omf_output.specs.Exe.Overlaps.{all_words}
use Rattle.omf_output.proofs.OverlapLaws.{overlaps-found}
use Rattle.omf_output.proofs.TakeLaws.{all-can, one-taken}
use Rattle.omf_output.proofs.exe.words.add_words.Goals as goal

pub loop-place-init : goal.loop-place-init
loop-place-init c =
    let p = c.pieces_of-place-items in
    let given = c.into_iter-place-iterator.ensures.into_iter_gives in
    record {
      same = ap (λ xs. all_words c.args.movers.now c.args.placement.now None xs c.args.words.now) (given ∙ p.ensures.walked);
      can = subst (All CanTake) (sym (ap (map (λ x. x.1)) given ∙ p.ensures.listed)) (all-can (recs (records_in c.args.module.now.bytes)) p.ensures.holds);
      low = tt;
    }

pub take-requires-clause-measured : goal.take-requires-clause-measured
take-requires-clause-measured c =
    All-head CanTake (piece_seen c.in-Some.piece) (map (λ x. x.1) c.next.new.self) (subst (All CanTake) (ap (map (λ x. x.1)) c.in-Some.ensures.steps) c.loop-place.invariant.can)

pub loop-place-preserved : goal.loop-place-preserved
loop-place-preserved c =
    let p = piece_seen c.in-Some.piece in
    let rest = c.next.new.self in
    record {
      same = one-taken c.args.movers.now c.args.placement.now c.loop-place.last c.opened_after-last.result (c.in-Some.place, p) c.loop-place.place-iterator rest c.loop-place.words c.take.new.words
          c.in_ok-take.field-0 c.in-Some.ensures.steps c.in_ok-take.ensures c.if-not-branch.false c.opened_after-last.ensures.value ∙ c.loop-place.invariant.same;
      can = All-tail CanTake p (map (λ x. x.1) rest) (subst (All CanTake) (ap (map (λ x. x.1)) c.in-Some.ensures.steps) c.loop-place.invariant.can);
      low = c.opened_after-last.ensures.low;
    }

pub returns-clause-adds : goal.returns-clause-adds
returns-clause-adds c =
    let p = c.pieces_of-place-items in
    let all = records_in c.args.module.now.bytes in
    overlaps-found c.args.movers.now c.args.placement.now (recs all) (placed_pieces (placed_from 0 0 all)) c.args.words.now c.loop-place.words p.ensures.holds
    (sym (ap (map (λ x. x.1)) p.ensures.walked) ∙ p.ensures.listed)
    (sym c.loop-place.invariant.same ∙ ap (λ xs. all_words c.args.movers.now c.args.placement.now c.loop-place.last xs c.loop-place.words) c.in-None.ensures.steps.0)

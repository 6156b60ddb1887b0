use Rattle.std.proofs.Common.{◌∙◌, ap, subst, sym}
use Rattle.omf_check.specs.Module.{records_in}
use Rattle.omf_check.specs.WellFormed.{recs}
use Rattle.omf_reloc.specs.Inner.PieceSeen.{piece_seen}
use Rattle.omf_reloc.proofs.FarLaws.{without_places}
use Rattle.omf_finding.specs.Inner.Shaping.{IsMarked}
use Rattle.omf_finding.specs.Inner.Walking.{Marks, byte_in}
use Rattle.omf_finding.proofs.WalkLaws.{IsWalked, walk-first, can-take, walk-next, walk-last, walk-marked}
use Rattle.omf_finding.proofs.patterning.marked_pattern.Goals as goal

pub loop-piece-init : goal.loop-piece-init
loop-piece-init c =
    let m = recs (records_in c.args.module.now.bytes) in
    let p = c.pieces_of-piece-items in
    walk-first m p.ensures.holds c.new-walk.result (without_places c.into_iter-piece-iterator.result) c.new-walk.ensures
    (ap without_places c.into_iter-piece-iterator.ensures.into_iter_gives ∙ p.ensures.listed)

pub take-requires : goal.take-requires
take-requires c =
    let m = recs (records_in c.args.module.now.bytes) in
    let w = c.loop-piece.walk in
    can-take m c.pieces_of-piece-items.ensures.holds w (piece_seen c.in-Some.piece) (without_places c.next.new.self)
    (subst (λ xs. IsWalked m w (without_places xs)) c.in-Some.ensures.steps c.loop-piece.invariant)

pub loop-piece-preserved : goal.loop-piece-preserved
loop-piece-preserved c =
    let m = recs (records_in c.args.module.now.bytes) in
    let w = c.loop-piece.walk in
    walk-next m c.pieces_of-piece-items.ensures.holds w c.take.new.self (piece_seen c.in-Some.piece) (without_places c.next.new.self)
    (subst (λ xs. IsWalked m w (without_places xs)) c.in-Some.ensures.steps c.loop-piece.invariant) c.in_ok-take.ensures

pub returns : goal.returns
returns c =
    let m = recs (records_in c.args.module.now.bytes) in
    let w = c.loop-piece.walk in
    let ended = subst (λ xs. IsWalked m w (without_places xs)) c.in-None.ensures.steps.0 c.loop-piece.invariant in
    record {
      bytes = λ segment x. ap (λ (p : Marks). byte_in p segment x) c.finish.ensures ∙ walk-last m c.pieces_of-piece-items.ensures.holds w ended segment x;
      marked = subst IsMarked (sym c.finish.ensures) (walk-marked m c.pieces_of-piece-items.ensures.holds w ended);
    }

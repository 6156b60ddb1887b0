use Rattle.std.proofs.Common.{◌≡◌, ◌+◌, ◌∙◌, ap, ap₂, length, sym, map, rules}
use Rattle.omf_check.specs.Module.{recs_of}
use Rattle.omf_check.specs.Tables.{segments}
use Rattle.omf_reloc.specs.Inner.PieceSeen.{piece_seen}
use Rattle.omf_trimming.specs.Reaching.{piece_uses, uses}
use Rattle.omf_trimming.specs.Inner.Uses.{empty_buckets, filled, piece_after, uses_from}
use Rattle.omf_trimming.proofs.UseLaws.{all-uses, filled-more}
use Rattle.omf_trimming.proofs.reaching.uses.Uses.of.Goals as goal

pub loop-piece-init : goal.loop-piece-init
loop-piece-init c =
    let m = recs_of c.args.«module».now.bytes in
    let same : c.into_iter-piece-iterator.result ≡ c.pieces_of-piece-items.result = search rules in
    let count : c.from.result ≡ length (segments m) = search rules in
    ap₂ filled c.in_ok-uses.ensures (ap (λ ps. uses_from 0 (map (λ p. p.1) ps)) same ∙ all-uses m (map (λ p. p.1) c.pieces_of-piece-items.result) c.pieces_of-piece-items.ensures.listed)
    ∙ ap (λ n. filled (empty_buckets (n + 1)) (uses m)) count

pub loop-piece-preserved : goal.loop-piece-preserved
loop-piece-preserved c =
    let p = piece_seen c.in-Some.piece in
    let rest = map (λ x. x.1) c.next.new.self in
    let last = c.loop-piece.last in
    ap₂ (λ us n. filled us (uses_from n rest)) c.in_ok-add_piece.ensures c.piece_after-last.ensures
    ∙ filled-more c.loop-piece.uses (piece_uses last p) (uses_from (piece_after last p) rest)
    ∙ ap (λ xs. filled c.loop-piece.uses (uses_from last (map (λ x. x.1) xs))) (sym c.in-Some.ensures.steps) ∙ c.loop-piece.invariant

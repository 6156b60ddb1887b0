use Rattle.std.proofs.Common.{◌≡◌, ℕ, List, [], ◌++◌, length, true, false, refl, ap, ◌∙◌, arith}
use Rattle.std.proofs.KnownBytes.{Appends-nil}
use Rattle.std.proofs.lemmas.List.{append-nil}
use Rattle.std.proofs.lemmas.Result.{err_from_is_err_and}
use Rattle.omf_frame.specs.Framing.{is_whole}
use Rattle.omf_dump.proofs.LaterLaws.{following_fits, next_later, none_later, piece_failed, piece_sent, went_on}
use Rattle.omf_dump.proofs.later.put_from.Goals as goal

pub loop-left-init : goal.loop-left-init
loop-left-init g c = record {
  streamed = λ before h. record { before = before; holds = h; sent = record { front = []; whole = refl; written = Appends-nil (g.K.Sink.seen c.args.writer.now).bytes } };
  count = omega arith;
  ends = omega arith;
}

pub returns-in_default : goal.returns-in_default
returns-in_default g c = λ before h. let w = c.loop-left.invariant.streamed before h in (w.sent.front, _, w.sent.whole, w.sent.written)

pub returns-in_err-send_piece : goal.returns-in_err-send_piece
returns-in_err-send_piece g c = λ before h.
    let w = c.loop-left.invariant.streamed before h in
    let whole_here : is_whole c.loop-left.left.now ≡ true = cc in
    let step = next_later c.args.style w.before c.loop-left.state.lost c.loop-left.number c.loop-left.start c.loop-left.left.now whole_here in
    let whole = went_on w.sent.front c.loop-left.text.items _ _ _ c.put_unjudged.new.text.items _ w.sent.whole step (c.in-Ok.ensures.text w.before w.holds) in
    let p = err_from_is_err_and c.from_residual.result c.from_residual.ensures.1 in
    rw p.1 (piece_failed _ _ _ _ w.sent.front c.put_unjudged.new.text.items _ whole w.sent.written c.in_err-send_piece.ensures)

pub loop-left-preserved : goal.loop-left-preserved
loop-left-preserved g c =
    let whole_here : is_whole c.loop-left.left.now ≡ true = cc in
    let fits = following_fits c.loop-left.left.now whole_here in
    let after = ap length c.following-left.ensures in
    let size = c.stated_length.ensures.value in
    let count = c.loop-left.invariant.count in
    let ends = c.loop-left.invariant.ends in
    record {
      streamed = λ before h.
          let w = c.loop-left.invariant.streamed before h in
          let step = next_later c.args.style w.before c.loop-left.state.lost c.loop-left.number c.loop-left.start c.loop-left.left.now whole_here in
          let whole = went_on w.sent.front c.loop-left.text.items _ _ _ c.put_unjudged.new.text.items _ w.sent.whole step (c.in-Ok.ensures.text w.before w.holds) in
          rw (c.in-Ok.ensures.lost, w.holds.tables, c.following-left.ensures, size) (record {
            before = _;
            holds = c.in-Ok.ensures.holds w.before w.holds;
            sent = piece_sent _ _ _ _ w.sent.front c.put_unjudged.new.text.items c.send_piece.new.text.items _ whole w.sent.written c.in_ok-send_piece.ensures;
          });
      count = omega (arith, fits, after, count);
      ends = omega (arith, fits, after, size, ends);
    }

pub returns : goal.returns
returns g c = λ before h.
    let w = c.loop-left.invariant.streamed before h in
    let none : is_whole c.loop-left.left.now ≡ false = cc in
    let front = w.sent.front in
    record {
      front = front;
      whole = w.sent.whole
          ∙ ap (λ (t : List ℕ). front ++ (c.loop-left.text.items ++ t)) (none_later c.args.style w.before c.loop-left.state.lost c.loop-left.number c.loop-left.start c.loop-left.left.now none)
          ∙ ap (λ (t : List ℕ). front ++ t) (append-nil c.loop-left.text.items);
      written = w.sent.written;
    }

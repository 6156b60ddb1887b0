use Rattle.std.proofs.Common.{◌≡◌, ℕ, ◌<◌, List, [], ◌++◌, length, sym, subst, ap, ◌∙◌, arith, append_assoc}
use Rattle.std.proofs.KnownBytes.{Appends-nil, Appends-trans}
use Rattle.std.proofs.lemmas.Bool.Decides.{nat_tests}
use Rattle.std.proofs.lemmas.Result.{err_from_is_err_and}
use Rattle.omf_check.proofs.ListedLaws.{front_short, front_taken}
use Rattle.omf_frame.specs.Framing.{after_front}
use Rattle.omf_dump.specs.Inner.Walking.{IsWalked}
use Rattle.omf_dump.proofs.LaterLaws.{front_shorter}
use Rattle.omf_dump.proofs.StreamLaws.{halted, sent_on, stopped}
use Rattle.omf_dump.proofs.WalkLaws.{all_held, all_walked, begins, counted, moved_on, next_of, rest_is, shown_next, walk_begins}
use Rattle.omf_dump.proofs.walk.show_records.Goals as goal

pub loop-left-init : goal.loop-left-init
loop-left-init g c = record {
  streamed = record {
    front = [];
    written = Appends-nil (g.K.Sink.seen c.args.writer.now).bytes;
    walked = λ records are. subst (IsWalked c.args.style records c.args.known.now 0 0 c.args.bytes.now []) (sym c.requires.empty) (walk_begins c.args.style records c.args.known.now c.args.bytes.now [] are c.requires.start);
  };
  ends = omega arith;
}

pub split_record-requires : goal.split_record-requires
split_record-requires g c =
    let records = c.requires.records.0 in
    let are = c.requires.records.1 in
    let some : 0 < length c.loop-left.left.now = grind (arith, nat_tests) in
    let n = next_of c.args.style c.args.bytes.now records c.loop-left.known c.loop-left.number c.loop-left.start c.loop-left.left.now [] (c.loop-left.invariant.streamed.front ++ c.loop-left.text.items) are some (c.loop-left.invariant.streamed.walked records are) in
    begins c.args.style records c.loop-left.known c.loop-left.number c.loop-left.start c.loop-left.left.now [] (c.loop-left.invariant.streamed.front ++ c.loop-left.text.items) n

pub checksum_of-requires : goal.checksum_of-requires
checksum_of-requires g c =
    let records = c.requires.records.0 in
    let are = c.requires.records.1 in
    let some : 0 < length c.loop-left.left.now = grind (arith, nat_tests) in
    let n = next_of c.args.style c.args.bytes.now records c.loop-left.known c.loop-left.number c.loop-left.start c.loop-left.left.now [] (c.loop-left.invariant.streamed.front ++ c.loop-left.text.items) are some (c.loop-left.invariant.streamed.walked records are) in
    begins c.args.style records c.loop-left.known c.loop-left.number c.loop-left.start c.loop-left.left.now [] (c.loop-left.invariant.streamed.front ++ c.loop-left.text.items) n

pub show_record-requires : goal.show_record-requires
show_record-requires g c =
    let records = c.requires.records.0 in
    let are = c.requires.records.1 in
    let some : 0 < length c.loop-left.left.now = grind (arith, nat_tests) in
    let n = next_of c.args.style c.args.bytes.now records c.loop-left.known c.loop-left.number c.loop-left.start c.loop-left.left.now [] (c.loop-left.invariant.streamed.front ++ c.loop-left.text.items) are some (c.loop-left.invariant.streamed.walked records are) in
    let first = begins c.args.style records c.loop-left.known c.loop-left.number c.loop-left.start c.loop-left.left.now [] (c.loop-left.invariant.streamed.front ++ c.loop-left.text.items) n in
    record {
      taken = front_taken c.loop-left.left.now c.split_record.result.0.kind first c.split_record.ensures.kind;
      short = front_short c.loop-left.left.now c.split_record.result.0.body.now first c.split_record.ensures.body;
    }

pub overflow_add-number : goal.overflow_add-number
overflow_add-number g c =
    let records = c.requires.records.0 in
    let are = c.requires.records.1 in
    let some : 0 < length c.loop-left.left.now = grind (arith, nat_tests) in
    let n = next_of c.args.style c.args.bytes.now records c.loop-left.known c.loop-left.number c.loop-left.start c.loop-left.left.now [] (c.loop-left.invariant.streamed.front ++ c.loop-left.text.items) are some (c.loop-left.invariant.streamed.walked records are) in
    let few = counted c.args.style c.args.bytes.now records c.loop-left.known c.loop-left.number c.loop-left.start c.loop-left.left.now [] (c.loop-left.invariant.streamed.front ++ c.loop-left.text.items) are n in
    omega arith

pub overflow_sub-start : goal.overflow_sub-start
overflow_sub-start g c =
    let some : 0 < length c.loop-left.left.now = grind (arith, nat_tests) in
    let less : length (after_front c.loop-left.left.now) < length c.loop-left.left.now = front_shorter c.loop-left.left.now some in
    let rest : length c.split_record.result.1.now ≡ length (after_front c.loop-left.left.now) = ap length c.split_record.ensures.rest in
    omega (arith, less, rest)

pub returns-in_default-clause-text : goal.returns-in_default-clause-text
returns-in_default-clause-text g c = λ records are. halted c.args.style records c.loop-left.known c.loop-left.number c.loop-left.start c.loop-left.left.now (g.K.Sink.seen c.args.writer.now).bytes (g.K.Sink.seen c.loop-left.writer).bytes
    c.loop-left.invariant.streamed.front c.loop-left.text.items c.loop-left.invariant.streamed.written (c.loop-left.invariant.streamed.walked records are)

pub returns-in_err-send_piece-clause-text : goal.returns-in_err-send_piece-clause-text
returns-in_err-send_piece-clause-text g c = λ records are.
    let some : 0 < length c.loop-left.left.now = grind (arith, nat_tests) in
    let p = err_from_is_err_and c.from_residual.result c.from_residual.ensures.1 in
    let front = c.loop-left.invariant.streamed.front in
    let made : front ++ c.show_record.new.text.items ≡ (front ++ c.loop-left.text.items) ++ _ = ap (λ (t : List ℕ). front ++ t) c.in-Ok.ensures.text ∙ sym (append_assoc front c.loop-left.text.items _) in
    let walked = shown_next c.args.style c.args.bytes.now records c.loop-left.known c.show_record.new.known c.loop-left.number c.loop-left.start c.split_record.result.0.kind c.checksum_of.result c.split_record.result.0.body.now c.loop-left.left.now
    c.split_record.result.1.now [] (front ++ c.loop-left.text.items) (front ++ c.show_record.new.text.items) are some (c.loop-left.invariant.streamed.walked records are) c.split_record.ensures.kind c.checksum_of.ensures c.split_record.ensures.body
    c.split_record.ensures.rest made c.in-Ok.ensures.keeps in
    rw p.1 (stopped c.args.style records c.show_record.new.known _ _ c.split_record.result.1.now (g.K.Sink.seen c.args.writer.now).bytes (g.K.Sink.seen c.loop-left.writer).bytes (g.K.Sink.seen c.send_piece.new.writer).bytes
    front c.show_record.new.text.items c.loop-left.invariant.streamed.written walked c.in_err-send_piece.ensures)

pub loop-left-preserved : goal.loop-left-preserved
loop-left-preserved g c =
    let some : 0 < length c.loop-left.left.now = grind (arith, nat_tests) in
    let front = c.loop-left.invariant.streamed.front in
    let sent = c.in_ok-send_piece.ensures in
    record {
      streamed = record {
        front = front ++ sent.front;
        written = Appends-trans (g.K.Sink.seen c.args.writer.now).bytes (g.K.Sink.seen c.loop-left.writer).bytes (g.K.Sink.seen c.send_piece.new.writer).bytes front sent.front c.loop-left.invariant.streamed.written sent.written;
        walked = λ records are.
            shown_next c.args.style c.args.bytes.now records c.loop-left.known c.show_record.new.known c.loop-left.number c.loop-left.start c.split_record.result.0.kind c.checksum_of.result c.split_record.result.0.body.now c.loop-left.left.now
            c.split_record.result.1.now [] (front ++ c.loop-left.text.items) _ are some (c.loop-left.invariant.streamed.walked records are) c.split_record.ensures.kind c.checksum_of.ensures c.split_record.ensures.body c.split_record.ensures.rest
            (sent_on (g.K.Sink.seen c.loop-left.writer).bytes (g.K.Sink.seen c.send_piece.new.writer).bytes front c.loop-left.text.items _ c.show_record.new.text.items c.send_piece.new.text.items c.in-Ok.ensures.text sent)
            c.in-Ok.ensures.keeps;
      };
      ends =
          let records = c.requires.records.0 in
          let are = c.requires.records.1 in
          let n = next_of c.args.style c.args.bytes.now records c.loop-left.known c.loop-left.number c.loop-left.start c.loop-left.left.now [] (c.loop-left.invariant.streamed.front ++ c.loop-left.text.items) are some (c.loop-left.invariant.streamed.walked records are) in
          let rest = c.split_record.ensures.rest ∙ rest_is c.args.style records c.loop-left.known c.loop-left.number c.loop-left.start c.loop-left.left.now [] (c.loop-left.invariant.streamed.front ++ c.loop-left.text.items) n in
          let moved = (moved_on c.loop-left.left.now c.split_record.result.1.now n.one n.after n.spelled rest).0 in
          let before = c.loop-left.invariant.ends in
          omega (arith, moved, before);
    }

pub loop-left-smaller : goal.loop-left-smaller
loop-left-smaller g c =
    let records = c.requires.records.0 in
    let are = c.requires.records.1 in
    let some : 0 < length c.loop-left.left.now = grind (arith, nat_tests) in
    let n = next_of c.args.style c.args.bytes.now records c.loop-left.known c.loop-left.number c.loop-left.start c.loop-left.left.now [] (c.loop-left.invariant.streamed.front ++ c.loop-left.text.items) are some (c.loop-left.invariant.streamed.walked records are) in
    let rest = c.split_record.ensures.rest ∙ rest_is c.args.style records c.loop-left.known c.loop-left.number c.loop-left.start c.loop-left.left.now [] (c.loop-left.invariant.streamed.front ++ c.loop-left.text.items) n in
    (moved_on c.loop-left.left.now c.split_record.result.1.now n.one n.after n.spelled rest).0

pub returns-clause-text : goal.returns-clause-text
returns-clause-text g c = λ records are. record {
  front = c.loop-left.invariant.streamed.front;
  whole = sym (all_walked c.args.style records c.loop-left.known c.loop-left.number c.loop-left.start c.loop-left.left.now [] (c.loop-left.invariant.streamed.front ++ c.loop-left.text.items) (grind (arith, nat_tests))
      (c.loop-left.invariant.streamed.walked records are));
  written = c.loop-left.invariant.streamed.written;
}

pub returns-clause-holds : goal.returns-clause-holds
returns-clause-holds g c = λ records are.
    all_held c.args.style records c.loop-left.known c.loop-left.number c.loop-left.start c.loop-left.left.now [] (c.loop-left.invariant.streamed.front ++ c.loop-left.text.items) (grind (arith, nat_tests)) (c.loop-left.invariant.streamed.walked records are)

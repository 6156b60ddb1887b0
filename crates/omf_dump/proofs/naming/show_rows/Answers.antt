use Rattle.std.proofs.Common.{List, ℕ, ◌∙◌, ◌+◌, ap, subst, arith}
use Rattle.std.specs.Io.KnownBytes.{Appends}
use Rattle.omf_dump.specs.Names.{row_line}
use Rattle.omf_dump.proofs.NamingLaws.{counted_more, counted_none, has_room, left_of, written_all, written_more, written_none}
use Rattle.omf_dump.proofs.naming.show_rows.Goals as goal

pub loop-rec-init : goal.loop-rec-init
loop-rec-init g c =
    let all = ap left_of c.into_iter-rec-iterator.ensures.into_iter_gives ∙ c.records-rec-items.ensures in
    record {
      written = written_none (row_line c.args.names.now.shape c.args.names.now.which c.args.names.now.head.now) c.args.names.now.facts _ _ (g.K.Sink.seen c.args.writer.now).bytes c.new-text.ensures.items all;
      counted = counted_none c.args.names.now.facts _ all;
    }

pub put_record-requires : goal.put_record-requires
put_record-requires g c =
    let room = has_room c.args.names.now.facts c.loop-rec.first _ _ _ c.in-Some.ensures.steps c.loop-rec.invariant.counted in
    let count = c.external_count-count.ensures.count in
    let bounded = c.external_count-count.ensures.bounded in
    omega (arith, room, count, bounded)

pub external_count-first-requires : goal.external_count-first-requires
external_count-first-requires g c =
    let room = has_room c.args.names.now.facts c.loop-rec.first _ _ _ c.in-Some.ensures.steps c.loop-rec.invariant.counted in
    let count = c.external_count-count.ensures.count in
    let bounded = c.external_count-count.ensures.bounded in
    omega (arith, room, count, bounded)

pub overflow_add-first : goal.overflow_add-first
overflow_add-first g c =
    let room = has_room c.args.names.now.facts c.loop-rec.first _ _ _ c.in-Some.ensures.steps c.loop-rec.invariant.counted in
    let count = c.external_count-count.ensures.count in
    let bounded = c.external_count-count.ensures.bounded in
    let here = c.external_count-first.ensures in
    omega (arith, room, count, bounded, here)

pub loop-rec-preserved : goal.loop-rec-preserved
loop-rec-preserved g c =
    let next = ap (λ (k : ℕ). c.loop-rec.first + k) c.external_count-first.ensures in
    record {
      written = written_more (row_line c.args.names.now.shape c.args.names.now.which c.args.names.now.head.now) c.args.names.now.facts c.loop-rec.first _ _ _ _ _ _ _ _ _ _ c.in-Some.ensures.steps next c.in-Ok.ensures c.in_ok-send_piece.ensures
          c.loop-rec.invariant.written;
      counted = counted_more c.args.names.now.facts c.loop-rec.first _ _ _ _ c.in-Some.ensures.steps next c.loop-rec.invariant.counted;
    }

pub returns : goal.returns
returns g c =
    let sent = subst (λ (t : List ℕ). Appends (g.K.Sink.seen c.loop-rec.writer).bytes (g.K.Sink.seen c.send.new.writer).bytes t) c.deref.ensures.value c.in_ok-send.ensures in
    written_all (row_line c.args.names.now.shape c.args.names.now.which c.args.names.now.head.now) c.args.names.now.facts c.loop-rec.first _ _ _ _ _ c.in-None.ensures.steps.0 c.loop-rec.invariant.written sent

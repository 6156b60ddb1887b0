use Rattle.std.proofs.Common.{◌≡◌, ◌+◌, ◌∙◌, false, ap, length, sym, arith}
use Rattle.omf_frame.specs.Framing.{Raw}
use Rattle.omf_lowered.specs.Places.{is_same}
use Rattle.omf_lowered.proofs.SameLaws.{offset_more, offset_within, unlike_more}
use Rattle.omf_lowered.proofs.place.first_same.Goals as goal

pub overflow_add-start-in-loop-record : goal.overflow_add-start-in-loop-record
overflow_add-start-in-loop-record c =
    let l = c.loop-record in
    let size : length c.record.inside.body.now ≡ length c.record-item.result.body = ap (λ (r : Raw). length r.body) c.record.view_is in
    omega (arith, c.requires, size, offset_within c.args.records.now l.record-index l.start c.record-item.result c.record-item.is c.loop-record-test.true l.invariant.offset)

pub loop-record-preserved : goal.loop-record-preserved
loop-record-preserved c =
    let l = c.loop-record in
    let r = c.record-item.result in
    let size : length c.record.inside.body.now ≡ length r.body = ap (λ (x : Raw). length x.body) c.record.view_is in
    record {
      counted = omega (arith, l.invariant.counted);
      offset = ap (λ n. l.start + (n + 4)) size ∙ offset_more c.args.records.now l.record-index l.start r c.record-item.is c.loop-record-test.true l.invariant.offset;
      unlike = unlike_more c.args.records.now c.args.other.now l.record-index r c.record-item.is c.loop-record-test.true l.invariant.unlike (sym c.is_same.ensures ∙ c.if-is_same.false);
    }

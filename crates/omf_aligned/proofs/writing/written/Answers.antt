use Rattle.std.proofs.Common.{◌≡◌, ◌∙◌, ◌<◌, ◌≤◌, [], ◌++◌, length, get_or, sym, ap, arith, rules}
use Rattle.std.specs.Prelude.{flat_map}
use Rattle.omf_frame.specs.Framing.{Raw, raw_bytes}
use Rattle.omf_aligned.proofs.WalkLaws.{next_else, next_index, next_small, next_then, replaced_all, replaced_from, replaced_is, replaced_more}
use Rattle.omf_aligned.proofs.writing.written.Goals.{else-is_segdef, then-is_segdef}
use Rattle.omf_aligned.proofs.writing.written.Goals as goal

pub loop-record-init : goal.loop-record-init
loop-record-init c = record {
  all = ap (λ l. l ++ flat_map raw_bytes (replaced_from 1 c.args.records.now)) c.new-out.ensures.items ∙ ap (flat_map raw_bytes) (replaced_is [] c.args.records.now);
  few = omega arith;
}

pub loop-record-preserved : goal.loop-record-preserved
loop-record-preserved c =
    let rs = c.args.records.now in
    let i = c.loop-record.record-index in
    let index = c.loop-record.index in
    let x = c.record-item.result in
    let low : i < length rs = search rules in
    let here : x ≡ get_or rs i x = search rules in
    let kind : c.record.inside.kind ≡ x.kind = ap (λ (r : Raw). r.kind) c.record.view_is in
    let next : c.if-is_segdef.index ≡ next_index index x = elim c.if-is_segdef.branch [
      | then-is_segdef w ↦ next_then index _ _ x kind (sym c.is_segdef.ensures ∙ w.if-is_segdef.true) w.index-is
      | else-is_segdef w ↦ next_else index _ _ x kind (sym c.is_segdef.ensures ∙ w.if-is_segdef.false) w.index-is
    ] in
    record {
      all = replaced_more c.loop-record.out.items _ _ rs i index _ x x low here next c.in_ok-put_replacement.ensures c.loop-record.invariant.all;
      few = let more = next_small index _ x next in omega (arith, more, c.loop-record.invariant.few);
    }

pub returns : goal.returns
returns c =
    let high : length c.args.records.now ≤ c.loop-record.record-index = search rules in
    replaced_all _ _ c.args.records.now c.loop-record.record-index c.loop-record.index high c.loop-record.invariant.all

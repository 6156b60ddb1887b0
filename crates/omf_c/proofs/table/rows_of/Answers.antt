use Rattle.std.proofs.Common.{◌≡◌, ◌+◌, ◌^◌, ◌≤◌, ◌++◌, sym, subst, ap, ◌∙◌, arith, length}
use Rattle.std.specs.Prelude.{flat_map}
use Rattle.omf_frame.specs.Framing.{raw_bytes}
use Rattle.omf_check.specs.Module.{records_in}
use Rattle.omf_c.specs.Tables.{rows_from}
use Rattle.omf_c.proofs.RowLaws.{StartBelow, rows_due, start_below}
use Rattle.omf_c.proofs.table.rows_of.Goals as goal

pub loop-place-init : goal.loop-place-init
loop-place-init g c =
    let records = records_in c.args.module.now.bytes in
    let listed = c.into_iter-place-iterator.ensures.into_iter_gives ∙ c.records-place-items.ensures.listed in
    let size : length c.args.module.now.bytes ≡ length (flat_map raw_bytes records) = ap length c.bytes-bytes.ensures.well_formed.framed.spelled in
    let shown : length c.bytes-bytes.result.now ≡ length c.args.module.now.bytes = ap length c.bytes-bytes.ensures.bytes in
    let small = c.size_of-size.ensures in
    let low : 0 + length (flat_map raw_bytes records) ≤ 2 ^ 63 = omega (arith, size, shown, small.size, small.small) in
    record {
      rows = ap (λ xs. xs ++ rows_from g.T.Row.given c.args.names.now c.into_iter-place-iterator.result) c.new-rows.ensures.items ∙ ap (rows_from g.T.Row.given c.args.names.now) listed;
      low = subst (StartBelow (2 ^ 63)) (sym listed) (start_below 0 0 (2 ^ 63) records low);
    }

pub add-requires : goal.add-requires
add-requires g c = (subst (StartBelow (2 ^ 63)) c.in-Some.ensures.steps c.loop-place.invariant.low).0

pub loop-place-preserved : goal.loop-place-preserved
loop-place-preserved g c = record {
  rows = rows_due _ _ c.loop-place.place-iterator _ c.loop-place.rows.items _ c.in-Some.ensures.steps c.in_ok-add.ensures ∙ c.loop-place.invariant.rows;
  low = (subst (StartBelow (2 ^ 63)) c.in-Some.ensures.steps c.loop-place.invariant.low).1;
}

use Rattle.std.proofs.Common.{List, ◌≡◌, ◌+◌, ◌^◌, ◌≤◌, ◌++◌, sym, subst, ap, ◌∙◌, arith, length}
use Rattle.std.specs.Prelude.{flat_map}
use Rattle.omf_frame.specs.Framing.{raw_bytes}
use Rattle.omf_frame.specs.declared.fault.Place.{Place}
use Rattle.omf_records.specs.Values.{Rec}
use Rattle.omf_check.specs.Module.{records_in}
use Rattle.omf_c.specs.Data.{contents_rows}
use Rattle.omf_c.proofs.DataLaws.{AllMeasure, all-measured}
use Rattle.omf_c.proofs.RowLaws.{StartBelow, rows_due, start_below}
use Rattle.omf_c.specs.declared.rows.DataRow.{DataRow}
use Rattle.omf_c.proofs.data.data_of.Goals as goal

abbrev rows_of : List (Place × Rec) → List DataRow
rows_of xs = flat_map (λ x. contents_rows x.0 x.1.kind x.1.contents) xs

pub loop-place-init : goal.loop-place-init
loop-place-init c =
    let records = records_in c.args.module.now.bytes in
    let listed = c.into_iter-place-iterator.ensures.into_iter_gives ∙ c.undecoded-place-items.ensures.listed in
    let size : length c.args.module.now.bytes ≡ length (flat_map raw_bytes records) = ap length c.bytes-bytes.ensures.well_formed.framed.spelled in
    let shown : length c.bytes-bytes.result.now ≡ length c.args.module.now.bytes = ap length c.bytes-bytes.ensures.bytes in
    let small = c.size_of-size.ensures in
    let low : 0 + length (flat_map raw_bytes records) ≤ 2 ^ 63 = omega (arith, size, shown, small.size, small.small) in
    record {
      rows = ap (λ xs. xs ++ rows_of c.into_iter-place-iterator.result) c.new-rows.ensures.items ∙ ap rows_of listed;
      low = subst (StartBelow (2 ^ 63)) (sym listed) (start_below 0 0 (2 ^ 63) records low);
      measure = subst AllMeasure (sym listed) (all-measured records c.undecoded-place-items.ensures.holds);
    }

pub add_row-requires-clause-start : goal.add_row-requires-clause-start
add_row-requires-clause-start c = (subst (StartBelow (2 ^ 63)) c.in-Some.ensures.steps c.loop-place.invariant.low).0

pub add_row-requires-clause-measured : goal.add_row-requires-clause-measured
add_row-requires-clause-measured c = (subst AllMeasure c.in-Some.ensures.steps c.loop-place.invariant.measure).0

pub loop-place-preserved : goal.loop-place-preserved
loop-place-preserved c = record {
  rows = rows_due _ _ c.loop-place.place-iterator _ c.loop-place.rows.items _ c.in-Some.ensures.steps c.in_ok-add_row.ensures ∙ c.loop-place.invariant.rows;
  low = (subst (StartBelow (2 ^ 63)) c.in-Some.ensures.steps c.loop-place.invariant.low).1;
  measure = (subst AllMeasure c.in-Some.ensures.steps c.loop-place.invariant.measure).1;
}

use Rattle.std.proofs.Common.{◌≡◌, ◌+◌, ◌∙◌, ◌++◌, refl, ap, arith, rules}
use Rattle.std.specs.Prelude.{Some, option_to_list}
use Rattle.omf_check.specs.Module.{records_in}
use Rattle.omf_check.specs.Tables.{segments, entry}
use Rattle.omf_check.specs.WellFormed.{recs}
use Rattle.omf_find.specs.Rows.{segment_row}
use Rattle.omf_placement.proofs.StepLaws.{next_entry, one_more, all_printed, none_left}
use Rattle.omf_find.proofs.rows.push_found.Goals as goal

pub loop-before-init : goal.loop-before-init
loop-before-init c = record { whole = refl }

pub loop-before-preserved : goal.loop-before-preserved
loop-before-preserved c =
    let m = recs (records_in c.args.«module».now.bytes) in
    let told : entry (segments m) (c.loop-before.before + 1) ≡ Some c.in-Some.segment = search rules in
    one_more (λ s. option_to_list (segment_row c.args.number c.args.found.now s)) (segments m) c.loop-before.before _ _ c.in-Some.segment _
    (next_entry (segments m) c.loop-before.before c.in-Some.segment told)
    (c.in_ok-push_row.ensures ∙ ap (λ r. c.loop-before.rows.items ++ option_to_list r) c.segment_row.ensures) c.loop-before.invariant

pub returns : goal.returns
returns c =
    let m = recs (records_in c.args.«module».now.bytes) in
    all_printed (λ s. option_to_list (segment_row c.args.number c.args.found.now s)) (segments m) c.loop-before.before _ _
    (none_left (segments m) c.loop-before.before (omega (arith, c.loop-before-test.false, c.segments-before-end.ensures.count))) c.loop-before.invariant

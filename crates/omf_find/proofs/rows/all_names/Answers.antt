use Rattle.std.proofs.Common.{◌+◌, ◌++◌, ◌∙◌, ap, drop}
use Rattle.std.specs.Prelude.{slice_get}
use Rattle.omf_check.specs.Module.{recs_of}
use Rattle.omf_find.specs.Rows.{all_names, verdict_names}
use Rattle.omf_placement.proofs.StepLaws.{next_item, part_more}
use Rattle.omf_find.proofs.rows.all_names.Goals as goal

pub loop-number-preserved : goal.loop-number-preserved
loop-number-preserved c =
    let ms = c.args.modules.now in
    let vs = c.args.verdicts.now in
    let i = c.loop-number.number in
    let m = c.index-modules-number.result in
    part_more _ _ (verdict_names i (recs_of m.bytes) (slice_get vs i)) (all_names (i + 1) (drop (i + 1) ms) vs) _ _
    (c.in_ok-push_names.ensures ∙ ap (λ v. c.loop-number.rows.items ++ verdict_names i (recs_of m.bytes) v) c.verdict_of.ensures)
    (ap (λ xs. all_names i xs vs) (next_item ms i m c.index-modules-number.is c.loop-number-test.true)) c.loop-number.invariant

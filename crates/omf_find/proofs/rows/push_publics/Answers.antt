use Rattle.std.proofs.Common.{◌++◌, ap, ◌∙◌}
use Rattle.omf_check.specs.Module.{records_in}
use Rattle.omf_find.specs.Rows.{record_rows}
use Rattle.omf_placement.proofs.StepLaws.{part_more, no_part_left}
use Rattle.omf_find.proofs.RowLaws.{listed_rows, listed-rows, rows-more}
use Rattle.omf_find.proofs.rows.push_publics.Goals as goal

pub loop-rec-init : goal.loop-rec-init
loop-rec-init c =
    let listed = c.into_iter-rec-iterator.ensures.into_iter_gives ∙ c.undecoded-rec-items.ensures.listed in
    ap (λ xs. c.args.rows.now.items ++ xs)
    (ap (listed_rows c.args.local c.args.number c.args.found.now) listed ∙ listed-rows c.args.local c.args.number c.args.found.now 0 0 (records_in c.args.«module».now.bytes))

pub loop-rec-preserved : goal.loop-rec-preserved
loop-rec-preserved c =
    part_more _ _ (record_rows c.args.local c.args.number c.args.found.now c.in-Some.rec.kind c.in-Some.rec.contents) _ _ _ c.in_ok-push_record.ensures
    (rows-more c.args.local c.args.number c.args.found.now c.loop-rec.rec-iterator _ _ c.in-Some.ensures.steps) c.loop-rec.invariant

pub returns : goal.returns
returns c = no_part_left _ _ _ (ap (listed_rows c.args.local c.args.number c.args.found.now) c.in-None.ensures.steps.0) c.loop-rec.invariant

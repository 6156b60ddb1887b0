use Rattle.std.proofs.Common.{◌++◌, ap, ◌∙◌, false}
use Rattle.omf_check.specs.Module.{records_in}
use Rattle.omf_placement.specs.Derive.{record_publics}
use Rattle.omf_placement.proofs.TableLaws.{listed_publics, listed-publics}
use Rattle.omf_placement.proofs.StepLaws.{part_more, no_part_left}
use Rattle.omf_listing.proofs.public.push_module.Goals as goal

pub loop-rec-init : goal.loop-rec-init
loop-rec-init c =
    let pl = c.args.placement.now in
    let listed = c.into_iter-rec-iterator.ensures.into_iter_gives ∙ c.undecoded-rec-items.ensures.listed in
    ap (λ xs. c.args.all.now.items ++ xs) (ap (listed_publics false pl) listed ∙ listed-publics false pl 0 0 (records_in c.args.«module».now.bytes))

pub loop-rec-preserved : goal.loop-rec-preserved
loop-rec-preserved c =
    let pl = c.args.placement.now in
    part_more _ _ (record_publics false pl c.in-Some.rec.kind c.in-Some.rec.contents) _ _ _ c.in_ok-push_record.ensures
    (ap (listed_publics false pl) c.in-Some.ensures.steps) c.loop-rec.invariant

pub returns : goal.returns
returns c = no_part_left _ _ _ (ap (listed_publics false c.args.placement.now) c.in-None.ensures.steps.0) c.loop-rec.invariant

use Rattle.std.proofs.Common.{[], ◌∙◌, ap, true, false}
use Rattle.omf_check.specs.Module.{records_in}
use Rattle.omf_find.specs.Nearly.{contents_publics, record_publics}
use Rattle.omf_find.proofs.NearlyLaws.{all_so_far, both_kinds, listed-publics, listed_publics, more_so_far, none_before, two_steps}
use Rattle.omf_find.proofs.near.public_before.Goals as goal

pub loop-rec-init : goal.loop-rec-init
loop-rec-init c =
    let listed = c.into_iter-rec-iterator.ensures.into_iter_gives ∙ c.undecoded-rec-items.ensures.listed in
    ([], none_before c.args.offset, ap (listed_publics c.args.segment) listed ∙ listed-publics c.args.segment 0 0 (records_in c.args.«module».now.bytes))

pub loop-rec-preserved : goal.loop-rec-preserved
loop-rec-preserved c =
    let segment = c.args.segment in
    let own = c.in-Some.rec in
    more_so_far c.args.offset _ _ _ _ _ (contents_publics segment own.contents) (ap (listed_publics segment) c.in-Some.ensures.steps)
    (λ ps h. two_steps c.args.offset _ _ _ (record_publics false segment own.kind own.contents) (record_publics true segment own.kind own.contents) (contents_publics segment own.contents) ps
    (both_kinds segment own.kind own.contents) c.later_in-best.ensures c.later_in-best-in-loop-rec.ensures h)
    c.loop-rec.invariant

pub returns : goal.returns
returns c = all_so_far c.args.offset _ _ _ (ap (listed_publics c.args.segment) c.in-None.ensures.steps.0) c.loop-rec.invariant

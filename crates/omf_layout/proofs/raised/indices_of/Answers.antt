use Rattle.std.proofs.Common.{◌++◌, ap, ◌∙◌}
use Rattle.omf_check.specs.Module.{records_in}
use Rattle.omf_layout.specs.Wants.{raised_by}
use Rattle.omf_layout.proofs.Gathered.{given_by, given-all, more-given, all-given}
use Rattle.omf_layout.proofs.raised.indices_of.Goals as goal

pub loop-rec-init : goal.loop-rec-init
loop-rec-init c =
    let listed = c.into_iter-rec-iterator.ensures.into_iter_gives ∙ c.undecoded-rec-items.ensures.listed in
    ap (λ xs. xs ++ given_by raised_by c.into_iter-rec-iterator.result) c.new-indices.ensures.items ∙ ap (given_by raised_by) listed ∙ given-all raised_by 0 0 (records_in c.args.«module».now.bytes)

pub loop-rec-preserved : goal.loop-rec-preserved
loop-rec-preserved c = more-given _ _ (raised_by c.in-Some.rec.contents) _ _ _ (c.in_ok-add_record.ensures) (ap (given_by raised_by) c.in-Some.ensures.steps) c.loop-rec.invariant

pub returns : goal.returns
returns c = all-given _ _ _ (ap (given_by raised_by) c.in-None.ensures.steps.0) c.loop-rec.invariant

use Rattle.std.proofs.Common.{◌++◌, ap, ap₂, ◌∙◌}
use Rattle.omf_check.specs.Module.{records_in}
use Rattle.omf_making.specs.Names.{defined_by, names_seen, recorded_names}
use Rattle.omf_making.proofs.NameLaws.{all_in_order, defined_from, in_order, last_given, next_given}
use Rattle.omf_making.proofs.names.recorded_names.Goals as goal

pub loop-rec-init : goal.loop-rec-init
loop-rec-init c =
    let left = in_order c.into_iter-rec-iterator.result in
    let listed = c.into_iter-rec-iterator.ensures.into_iter_gives ∙ c.undecoded-rec-items.ensures.listed in
    ap₂ (λ xs ys. names_seen xs ++ defined_from (names_seen ys) left) c.new-names.ensures.items c.new-last.ensures.items ∙ ap recorded_names (ap in_order listed ∙ all_in_order 0 0 (records_in c.args.«module».now.bytes))

pub loop-rec-preserved : goal.loop-rec-preserved
loop-rec-preserved c =
    next_given _ _ _ _ _ _ _ _ _ (ap in_order c.in-Some.ensures.steps) c.is_mark.ensures c.in_ok-push_marked.ensures (c.in_ok-last.ensures ∙ ap defined_by c.decoded.ensures) c.loop-rec.invariant

pub returns : goal.returns
returns c = last_given _ _ _ _ _ (ap in_order c.in-None.ensures.steps.0) c.in_ok-push_marked-2.ensures c.loop-rec.invariant

use Rattle.std.proofs.Common.{◌++◌, ap, ◌∙◌}
use Rattle.omf_check.specs.Module.{records_in}
use Rattle.omf_layout.specs.Wants.{rooms_in}
use Rattle.omf_layout.proofs.Gathered.{given_by, given-all, more-given, all-given}
use Rattle.omf_layout.proofs.wants.rooms_of.Goals as goal

pub loop-rec-init : goal.loop-rec-init
loop-rec-init c =
    let listed = c.into_iter-rec-iterator.ensures.into_iter_gives ∙ c.undecoded-rec-items.ensures.listed in
    ap (λ xs. xs ++ given_by rooms_in c.into_iter-rec-iterator.result) c.new-rooms.ensures.items ∙ ap (given_by rooms_in) listed ∙ given-all rooms_in 0 0 (records_in c.args.«module».now.bytes)

pub loop-rec-preserved : goal.loop-rec-preserved
loop-rec-preserved c = more-given _ _ (rooms_in c.in-Some.rec.contents) _ _ _ (c.in_ok-add_rooms.ensures) (ap (given_by rooms_in) c.in-Some.ensures.steps) c.loop-rec.invariant

pub returns : goal.returns
returns c = all-given _ _ _ (ap (given_by rooms_in) c.in-None.ensures.steps.0) c.loop-rec.invariant

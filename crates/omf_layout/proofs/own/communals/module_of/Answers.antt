use Rattle.omf_layout.proofs.CommunalRecords.{parts-put}
use Rattle.omf_layout.proofs.own.communals.module_of.Goals as goal

pub returns : goal.returns
returns c =
    parts-put c.args.home.now c.args.communals.now c.is_in_group-grouped.result _ _ _ _ _ _ _ _
    c.new-out.ensures.items c.is_in_group-grouped.ensures c.in_ok-put_front.ensures c.in_ok-put_near_segment.ensures c.in_ok-put_far_segments.ensures
    c.in_ok-put_near_group.ensures c.in_ok-put_near_publics.ensures c.in_ok-put_far_publics.ensures c.in_ok-put_end.ensures

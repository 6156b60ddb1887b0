use Rattle.std.specs.Prelude.{filter_map}
use Rattle.omf_check.specs.Module.{records_in}
use Rattle.omf_check.specs.WellFormed.{recs}
use Rattle.omf_placement.proofs.Filling.{IsFilled}
use Rattle.omf_output.specs.Inner.GroupFrames.{IsFrameTable}
use Rattle.omf_output.specs.Near.{group_frame}
use Rattle.omf_output.proofs.near.frames.FrameTable.add_members.Given as goal

-- the members so far are in the table
abbrev pub invariant-loop-member : goal.invariant-loop-member
invariant-loop-member l =
    let m = recs (records_in l.«module».bytes) in
    IsFilled IsFrameTable l.fn.self.by_name l.self.by_name (filter_map (λ x. group_frame m l.base x.item.item) l.member-iterator) (filter_map (λ x. group_frame m l.base x.item.item) l.fn.members)

use Rattle.std.proofs.Common.{◌≡◌, ◌∙◌, ℕ, List, ap, subst}
use Rattle.std.specs.Prelude.{Option, filter_map, option_to_list}
use Rattle.omf_check.specs.Module.{records_in}
use Rattle.omf_check.specs.WellFormed.{recs}
use Rattle.omf_placement.proofs.Filling.{fill-end, fill-more, fill-start}
use Rattle.omf_records.specs.Values.{At}
use Rattle.omf_output.specs.Inner.GroupFrames.{HasMore, IsFrameTable}
use Rattle.omf_output.specs.Near.{GroupFrame, group_frame}
use Rattle.omf_output.proofs.FrameLaws.{member-split}
use Rattle.omf_output.proofs.near.frames.FrameTable.add_members.Goals as goal

pub loop-member-init : goal.loop-member-init
loop-member-init c =
    let m = recs (records_in c.args.«module».now.bytes) in
    let f : At (At ℕ) → Option GroupFrame = λ x. group_frame m c.args.base x.item.item in
    fill-start IsFrameTable c.args.self.now.by_name _ _ (ap (filter_map f) c.into_iter-member-iterator.ensures.into_iter_gives)

pub loop-member-preserved : goal.loop-member-preserved
loop-member-preserved c =
    let m = recs (records_in c.args.«module».now.bytes) in
    let g : ℕ → Option GroupFrame = group_frame m c.args.base in
    let f : At (At ℕ) → Option GroupFrame = λ x. g x.item.item in
    let old = c.loop-member.self.by_name in
    let new = c.add_segment.new.self.by_name in
    let segment = c.segment_of.ensures ∙ ap (λ (y : At (At ℕ)). y.item.item) c.member.view_is in
    fill-more IsFrameTable c.args.self.now.by_name old new _ (filter_map f c.loop-member.member-iterator) (filter_map f c.next.new.self) _
    (member-split f c.loop-member.member-iterator c.next.new.self _ c.in-Some.ensures.steps)
    (subst (λ k. HasMore old new (option_to_list (g k))) segment c.in_ok-add_segment.ensures) c.loop-member.invariant

pub returns : goal.returns
returns c =
    let m = recs (records_in c.args.«module».now.bytes) in
    let f : At (At ℕ) → Option GroupFrame = λ x. group_frame m c.args.base x.item.item in
    fill-end IsFrameTable c.args.self.now.by_name c.loop-member.self.by_name _ _ (ap (filter_map f) c.in-None.ensures.steps.0) c.loop-member.invariant

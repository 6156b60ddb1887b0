use Rattle.std.proofs.Common.{List, ℕ, ◌∙◌, ap, sym, subst}
use Rattle.std.specs.Prelude.{OnOk, filter_map}
use Rattle.omf_check.specs.Module.{records_in}
use Rattle.omf_check.specs.Tables.{entry}
use Rattle.omf_check.specs.WellFormed.{recs}
use Rattle.omf_placement.specs.Derive.{PlacedModule}
use Rattle.omf_records.specs.Inner.Seen.{contents_seen}
use Rattle.omf_records.specs.Values.{At}
use Rattle.omf_output.specs.Inner.GroupFrames.{HasMore}
use Rattle.omf_output.specs.Near.{GroupFrame, group_frame}
use Rattle.omf_output.proofs.FrameLaws.{in-frame, no-frame, none-more}
use Rattle.omf_output.proofs.near.frames.FrameTable.add_group.Goals as goal

pub returns-in-Some : goal.returns-in-Some
returns-in-Some c g e =
    let m : PlacedModule = (recs (records_in c.args.«module».now.bytes), c.args.placement.now) in
    let f = c.in-Some.frame in
    let P : List GroupFrame → Type 0 = λ xs. OnOk c.add_members.result (HasMore c.args.self.now.by_name c.add_members.new.self.by_name xs) in
    in-frame P m c.args.index f _ _ _ g (ap contents_seen c.in-Group.is) e (ap (entry m.1.groups) (sym c.from.ensures) ∙ sym c.group.ensures ∙ c.in-Some.is)
    (subst (λ (ms : List (At (At ℕ))). P (filter_map (λ x. group_frame m.0 f.base x.item.item) ms)) c.iter.ensures c.add_members.ensures)

pub returns-in-None : goal.returns-in-None
returns-in-None c g e =
    let m : PlacedModule = (recs (records_in c.args.«module».now.bytes), c.args.placement.now) in
    none-more c.args.self.now.by_name _ (no-frame m c.args.index g (ap (entry m.1.groups) (sym c.from.ensures) ∙ sym c.group.ensures ∙ c.in-None.is))

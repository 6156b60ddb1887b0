use Rattle.std.proofs.Common.{◌≡◌, ◌∙◌, ap, sym, rules}
use Rattle.std.specs.Prelude.{Some, option_and_then, option_map}
use Rattle.omf_check.specs.Module.{records_in}
use Rattle.omf_check.specs.Tables.{entry, groups}
use Rattle.omf_check.specs.WellFormed.{recs}
use Rattle.omf_layout.proofs.Printed.{group-here}
use Rattle.omf_placement.specs.Derive.{PlacedModule}
use Rattle.omf_placement.specs.declared.frame.Frame.{Frame}
use Rattle.omf_records.specs.Inner.Seen.{contents_seen}
use Rattle.omf_records.specs.Values.{Group, GroupItem}
use Rattle.omf_reloc.specs.declared.fault.Kind.TheVariants as kinds
use Rattle.omf_warnings.specs.Frames.{framed, group_framed, group_in}
use Rattle.omf_warnings.proofs.frames.group_framed.Goals as goal

pub returns : goal.returns
returns c =
    let m : PlacedModule = (recs (records_in c.args.module.now.bytes), c.args.placement.now) in
    let j = c.args.number in
    let i = c.args.index in
    let f = c.in_ok-frame.frame in
    let there : Some (contents_seen c.in_ok-group.group) ≡ option_map Group (entry (groups m.0) i) = search rules in
    let here = group-here (contents_seen c.in_ok-group.group) (entry (groups m.0) i) there in
    let placed : entry m.1.groups i ≡ Some f = search rules in
    c.group_in.ensures ∙ ap (group_in m.0 (framed kinds.Group j i f)) here.seen
    ∙ sym (ap (option_and_then (λ (g : GroupItem). group_framed j m (i, g))) here.told ∙ ap (option_and_then (λ (h : Frame). group_in m.0 (framed kinds.Group j i h) (Group here.group))) placed)

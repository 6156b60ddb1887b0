use Rattle.std.proofs.Common.{◌≡◌, ◌+◌, ◌∙◌, ap, rules}
use Rattle.std.specs.Prelude.{Some, option_map}
use Rattle.omf_check.specs.Module.{records_in}
use Rattle.omf_check.specs.Tables.{groups, entry}
use Rattle.omf_check.specs.WellFormed.{recs}
use Rattle.omf_records.specs.Inner.Seen.{contents_seen}
use Rattle.omf_records.specs.Values.{Group}
use Rattle.omf_layout.proofs.Printed.{group-here}
use Rattle.omf_layout.specs.Several.Placing.{frame_named}
use Rattle.omf_layout.specs.Several.Portions.{name_at}
use Rattle.omf_layout.proofs.SeveralLaws.LowLaws.{more-of, next-group}
use Rattle.omf_layout.proofs.several.groups.LowTable.frames_of.Goals as goal

pub loop-before-preserved : goal.loop-before-preserved
loop-before-preserved c =
    let m = recs (records_in c.args.«module».now.bytes) in
    let j = c.loop-before.before in
    let frames = c.args.frames in
    let there : Some (contents_seen c.in-Some.group) ≡ option_map Group (entry (groups m) (j + 1)) = search rules in
    let here = group-here (contents_seen c.in-Some.group) (entry (groups m) (j + 1)) there in
    record {
      framed = λ ls h. more-of (λ g. frame_named frames ls (name_at m g.name.item)) c.loop-before.each.items c.push.new.self.items c.frame_of.result _ _ here.group _ c.in_ok-push.ensures.items
          (c.frame_of.ensures ls h ∙ ap (frame_named frames ls) (c.name_at.ensures ∙ ap (name_at m) (c.group_name.ensures here.group here.seen)))
          (next-group m j here.group here.told) (c.loop-before.invariant.framed ls h);
      end = c.loop-before.invariant.end;
    }

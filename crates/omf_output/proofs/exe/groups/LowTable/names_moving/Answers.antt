use Rattle.std.proofs.Common.{◌≡◌, ◌+◌, ◌∙◌, ap, rules}
use Rattle.std.specs.Prelude.{Some, option_map}
use Rattle.omf_check.specs.Module.{records_in}
use Rattle.omf_check.specs.Tables.{groups, entry}
use Rattle.omf_check.specs.WellFormed.{recs}
use Rattle.omf_records.specs.Inner.Seen.{contents_seen}
use Rattle.omf_records.specs.Values.{Group}
use Rattle.omf_output.specs.Exe.Derived.{name_at, name_moves}
use Rattle.omf_output.proofs.LowLaws.{group-here, more-of, next-entry}
use Rattle.omf_output.proofs.exe.groups.LowTable.names_moving.Goals as goal

pub loop-before-preserved : goal.loop-before-preserved
loop-before-preserved c =
    let m = recs (records_in c.args.«module».now.bytes) in
    let j = c.loop-before.before in
    let there : Some (contents_seen c.in-Some.group) ≡ option_map Group (entry (groups m) (j + 1)) = search rules in
    let here = group-here (contents_seen c.in-Some.group) (entry (groups m) (j + 1)) there in
    record {
      flags = λ ls h. more-of (λ g. name_moves ls (name_at m g.name.item)) c.loop-before.moving.items c.push.new.self.items c.name_moves.result _ _ here.group _ c.in_ok-push.ensures.items
          (c.name_moves.ensures ls h ∙ ap (name_moves ls) (c.name_at.ensures ∙ ap (name_at m) (c.group_name.ensures here.group here.seen)))
          (next-entry (groups m) j here.group here.told) (c.loop-before.invariant.flags ls h);
      end = c.loop-before.invariant.end;
    }

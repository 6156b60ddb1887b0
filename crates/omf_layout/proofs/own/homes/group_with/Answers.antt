use Rattle.std.proofs.Common.{◌≡◌, ◌+◌, ◌∙◌, ap, sym, rules}
use Rattle.std.specs.Prelude.{Some, option_map}
use Rattle.omf_check.specs.Module.{records_in}
use Rattle.omf_check.specs.Tables.{groups, entry}
use Rattle.omf_check.specs.WellFormed.{recs}
use Rattle.omf_records.specs.Inner.Seen.{contents_seen}
use Rattle.omf_records.specs.Values.{Group, GroupItem}
use Rattle.omf_layout.specs.Own.Homes.{has_part}
use Rattle.omf_layout.specs.Several.Portions.{name_at}
use Rattle.omf_layout.proofs.HomeLaws.{first-here, first-later}
use Rattle.omf_layout.proofs.Printed.{group-here}
use Rattle.omf_layout.proofs.own.homes.group_with.Goals as goal

pub returns-then-has_part : goal.returns-then-has_part
returns-then-has_part c =
    let m = recs (records_in c.args.«module».now.bytes) in
    let j = c.loop-before.before in
    let there : Some (contents_seen c.in-Some.group) ≡ option_map Group (entry (groups m) (j + 1)) = search rules in
    let here = group-here (contents_seen c.in-Some.group) (entry (groups m) (j + 1)) there in
    ap Some (c.named.ensures ∙ ap (name_at m) (c.group_name.ensures here.group here.seen))
    ∙ ap (option_map (λ (g : GroupItem). name_at m g.name.item))
    (first-here (has_part m c.args.key.now) m j here.group here.told (sym (c.has_part.ensures here.group here.seen) ∙ c.if-has_part.true) c.loop-before.invariant.same)

pub loop-before-preserved : goal.loop-before-preserved
loop-before-preserved c =
    let m = recs (records_in c.args.«module».now.bytes) in
    let j = c.loop-before.before in
    let there : Some (contents_seen c.in-Some.group) ≡ option_map Group (entry (groups m) (j + 1)) = search rules in
    let here = group-here (contents_seen c.in-Some.group) (entry (groups m) (j + 1)) there in
    record {
      same = first-later (has_part m c.args.key.now) m j here.group here.told (sym (c.has_part.ensures here.group here.seen) ∙ c.if-has_part.false) c.loop-before.invariant.same;
      end = c.loop-before.invariant.end;
    }

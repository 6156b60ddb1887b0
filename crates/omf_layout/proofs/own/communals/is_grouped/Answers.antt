use Rattle.std.proofs.Common.{◌≡◌, ◌+◌, ◌∙◌, sym, rules}
use Rattle.std.specs.Prelude.{Some, option_map}
use Rattle.omf_check.specs.Module.{records_in}
use Rattle.omf_check.specs.Tables.{groups, entry}
use Rattle.omf_check.specs.WellFormed.{recs}
use Rattle.omf_records.specs.Inner.Seen.{contents_seen}
use Rattle.omf_records.specs.Values.{Group}
use Rattle.omf_layout.proofs.OwnLaws.{found-here, found-later}
use Rattle.omf_layout.proofs.Printed.{group-here}
use Rattle.omf_layout.proofs.own.communals.is_grouped.Goals as goal

pub returns-then-is_named_dgroup : goal.returns-then-is_named_dgroup
returns-then-is_named_dgroup c =
    let m = recs (records_in c.args.«module».now.bytes) in
    let j = c.loop-before.before in
    let there : Some (contents_seen c.in-Some.group) ≡ option_map Group (entry (groups m) (j + 1)) = search rules in
    let here = group-here (contents_seen c.in-Some.group) (entry (groups m) (j + 1)) there in
    found-here m j here.group here.told (sym (c.is_named_dgroup.ensures here.group here.seen) ∙ c.if-is_named_dgroup.true) c.loop-before.invariant.same

pub loop-before-preserved : goal.loop-before-preserved
loop-before-preserved c =
    let m = recs (records_in c.args.«module».now.bytes) in
    let j = c.loop-before.before in
    let there : Some (contents_seen c.in-Some.group) ≡ option_map Group (entry (groups m) (j + 1)) = search rules in
    let here = group-here (contents_seen c.in-Some.group) (entry (groups m) (j + 1)) there in
    record {
      same = found-later m j here.group here.told (sym (c.is_named_dgroup.ensures here.group here.seen) ∙ c.if-is_named_dgroup.false) c.loop-before.invariant.same;
      end = c.loop-before.invariant.end;
    }

use Rattle.std.proofs.Common.{◌≡◌, ◌+◌, refl, arith, rules}
use Rattle.std.specs.Prelude.{Some, option_map}
use Rattle.std.specs.List.{zip}
use Rattle.omf_check.specs.Module.{records_in}
use Rattle.omf_check.specs.WellFormed.{recs}
use Rattle.omf_records.specs.Inner.Seen.{contents_seen}
use Rattle.omf_records.specs.Values.{Group}
use Rattle.omf_check.specs.Tables.{groups, entry}
use Rattle.omf_layout.specs.Draft.{group_line}
use Rattle.omf_layout.specs.Reading.{IsShortFrame}
use Rattle.omf_layout.proofs.Printed.{more-printed, all-printed, none-so-far, more-hold, all-hold, entry-zip, zip-short, group-here}
use Rattle.omf_layout.proofs.draft.print_groups.Goals as goal

pub loop-before-init : goal.loop-before-init
loop-before-init c = record { lines = record { whole = refl }; short = none-so-far IsShortFrame c.args.placement.now.groups }

pub loop-before-preserved : goal.loop-before-preserved
loop-before-preserved c =
    let m = recs (records_in c.args.«module».now.bytes) in
    let pl = c.args.placement.now in
    let j = c.loop-before.before in
    let there : Some (contents_seen c.in-Some.group) ≡ option_map Group (entry (groups m) (j + 1)) = c.in-Some.ensures in
    let here = group-here (contents_seen c.in-Some.group) (entry (groups m) (j + 1)) there in
    let framed : entry pl.groups (j + 1) ≡ Some c.in-Some-group.frame = search rules in
    let short : IsShortFrame c.in-Some-group.frame = c.in_ok-print_group.ensures.short in
    record {
      lines = more-printed (group_line c.args.frames m pl.segments) (zip (groups m) pl.groups) j _ _ _ _ c.loop-before.invariant.lines
          (entry-zip (groups m) pl.groups j _ _ here.told framed)
          (c.in_ok-print_group.ensures.line here.group here.seen);
      short = more-hold IsShortFrame pl.groups j _ c.loop-before.invariant.short framed short;
    }

pub returns-clause-short : goal.returns-clause-short
returns-clause-short c =
    all-hold IsShortFrame c.args.placement.now.groups c.loop-before.before
    (omega (arith, c.loop-before-test.false, c.groups-before-end.ensures.count, c.requires)) c.loop-before.invariant.short

pub returns-clause-lines : goal.returns-clause-lines
returns-clause-lines c =
    let m = recs (records_in c.args.«module».now.bytes) in
    let pl = c.args.placement.now in
    all-printed (group_line c.args.frames m pl.segments) (zip (groups m) pl.groups) c.loop-before.before _ _
    (omega (arith, c.loop-before-test.false, c.groups-before-end.ensures.count, zip-short (groups m) pl.groups)) c.loop-before.invariant.lines

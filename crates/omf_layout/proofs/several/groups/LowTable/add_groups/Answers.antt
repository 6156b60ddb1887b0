use Rattle.std.proofs.Common.{◌≡◌, ◌+◌, ◌∷◌, [], rules}
use Rattle.std.specs.Prelude.{Some, option_map, filter_map}
use Rattle.omf_check.specs.Module.{records_in}
use Rattle.omf_check.specs.Tables.{groups, entry}
use Rattle.omf_check.specs.WellFormed.{recs}
use Rattle.omf_records.specs.Inner.Seen.{contents_seen}
use Rattle.omf_records.specs.Values.{Group}
use Rattle.omf_layout.proofs.Printed.{group-here}
use Rattle.omf_layout.specs.Several.Placing.{low_of, IsLowTable}
use Rattle.omf_placement.proofs.Filling.{fill-more}
use Rattle.omf_layout.proofs.SeveralLaws.LowLaws.{lows-split}
use Rattle.omf_layout.proofs.several.groups.LowTable.add_groups.Goals as goal

pub loop-before-preserved : goal.loop-before-preserved
loop-before-preserved c =
    let m = recs (records_in c.args.«module».now.bytes) in
    let xs = c.args.segments.now in
    let j = c.loop-before.before in
    let there : Some (contents_seen c.in-Some.group) ≡ option_map Group (entry (groups m) (j + 1)) = search rules in
    let here = group-here (contents_seen c.in-Some.group) (entry (groups m) (j + 1)) there in
    record {
      filled = fill-more IsLowTable c.args.self.now.by_name c.loop-before.self.by_name c.add_group.new.self.by_name (filter_map (low_of m xs) (here.group ∷ [])) _ _ _ (lows-split m xs j here.group here.told)
          (c.in_ok-add_group.ensures here.group here.seen) c.loop-before.invariant.filled;
      end = c.loop-before.invariant.end;
    }

use Rattle.std.proofs.Common.{◌≡◌, ◌++◌, drop}
use Rattle.std.specs.Prelude.{map, zip}
use Rattle.std.specs.List.{enumerate_from}
use Rattle.omf_check.specs.Module.{typed_modules}
use Rattle.omf_linking.specs.Inner.Sharing.{shares_seen}
use Rattle.omf_linking.specs.Locator.Drafted.{all_shared, shared_by, sharing_of}
use Rattle.omf_linking.specs.Locator.Items.{group_title, segment_title}
use Rattle.omf_linking.proofs.SharingLaws.{IsSoFar, groups_of, segments_of}
use Rattle.omf_linking.proofs.locator.shares.shares_of.Given as goal

-- the tables have the lines of the modules so far; what these share, and what those that are left share
abbrev pub invariant-loop-number : goal.invariant-loop-number
invariant-loop-number l = let ms = typed_modules l.modules in record {
  segments : IsSoFar segment_title segments_of ms (enumerate_from 0 (zip ms l.placements)) l.number l.first_segments.by_title;
  groups : IsSoFar group_title groups_of ms (enumerate_from 0 (zip ms l.placements)) l.number l.first_groups.by_title;
  made : map shares_seen l.shares.items ++ map (λ x. shared_by (sharing_of ms l.placements x.0 x.1.0) x.1.1) (drop l.number (enumerate_from 0 (zip ms l.placements))) ≡ all_shared ms l.placements;
}

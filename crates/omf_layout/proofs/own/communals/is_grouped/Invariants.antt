use Rattle.std.proofs.Common.{◌≡◌, drop, length}
use Rattle.std.specs.List.{list_any}
use Rattle.omf_check.specs.Module.{records_in}
use Rattle.omf_check.specs.Tables.{groups}
use Rattle.omf_check.specs.WellFormed.{recs}
use Rattle.omf_layout.specs.Own.Communals.{is_dgroup, is_grouped}
use Rattle.omf_layout.specs.Several.Portions.{name_at}
use Rattle.omf_layout.proofs.own.communals.is_grouped.Given as goal

-- none so far, so one of those that are left or none
abbrev pub invariant-loop-before : goal.invariant-loop-before
invariant-loop-before l = let m = recs (records_in l.«module».bytes) in record {
  same : list_any (λ g. is_dgroup (name_at m g.name.item)) (drop l.before (groups m)) ≡ is_grouped m;
  end : l.before-end ≡ length (groups m);
}

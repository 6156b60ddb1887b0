use Rattle.std.proofs.Common.{◌≡◌, drop, length}
use Rattle.omf_check.specs.Module.{records_in}
use Rattle.omf_check.specs.Tables.{externals}
use Rattle.omf_check.specs.WellFormed.{recs}
use Rattle.omf_layout.specs.Own.Order.{asks_for, has_name}
use Rattle.omf_layout.proofs.own.ends.asks_for.Given as goal

-- none so far, so one of those that are left or none
abbrev pub invariant-loop-before : goal.invariant-loop-before
invariant-loop-before l = let m = recs (records_in l.«module».bytes) in record {
  same : has_name (drop l.before (externals m)) l.name ≡ asks_for l.name m;
  end : l.before-end ≡ length (externals m);
}

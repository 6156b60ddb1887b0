use Rattle.std.proofs.Common.{◌≡◌}
use Rattle.std.specs.List.{list_any}
use Rattle.omf_check.specs.Module.{records_in}
use Rattle.omf_check.specs.WellFormed.{recs}
use Rattle.omf_warnings.specs.RealMode.{is_small}
use Rattle.omf_warnings.proofs.real.is_one_small.Given as goal

-- whether one of those that are left is, is that of all
abbrev pub invariant-loop-member : goal.invariant-loop-member
invariant-loop-member l = let m = recs (records_in l.«module».bytes) in list_any (λ x. is_small m x.item.item) l.member-iterator ≡ list_any (λ x. is_small m x.item.item) l.fn.members

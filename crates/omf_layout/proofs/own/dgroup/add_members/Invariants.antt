use Rattle.std.proofs.Common.{◌≡◌, ◌++◌}
use Rattle.std.specs.Prelude.{filter_map, map}
use Rattle.omf_check.specs.Module.{records_in}
use Rattle.omf_check.specs.WellFormed.{recs}
use Rattle.omf_layout.specs.Own.Order.{member_class}
use Rattle.omf_layout.proofs.own.dgroup.add_members.Given as goal

-- the classes so far, and those of the members that are left
abbrev pub invariant-loop-member : goal.invariant-loop-member
invariant-loop-member l = let m = recs (records_in l.«module».bytes) in map (λ c. c.now) l.classes.items ++ filter_map (member_class m) l.member-iterator ≡ map (λ c. c.now) l.fn.classes.items ++ filter_map (member_class m) l.fn.members

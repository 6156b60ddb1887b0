use Rattle.std.proofs.Common.{◌≡◌}
use Rattle.std.specs.Prelude.{◌||◌}
use Rattle.std.specs.List.{list_any}
use Rattle.omf_check.specs.Module.{records_in}
use Rattle.omf_check.specs.WellFormed.{recs}
use Rattle.omf_layout.specs.Own.Homes.{is_member}
use Rattle.omf_layout.proofs.own.homes.has_member.Given as goal

-- one so far, or one of those that are left
abbrev pub invariant-loop-member : goal.invariant-loop-member
invariant-loop-member l =
    let m = recs (records_in l.«module».bytes) in
    (l.found || list_any (λ x. is_member m l.key x.item.item) l.member-iterator) ≡ list_any (λ x. is_member m l.key x.item.item) l.fn.members

use Rattle.std.proofs.Common.{◌≡◌, ◌++◌}
use Rattle.omf_placement.specs.Derive.{publics_at}
use Rattle.omf_listing.proofs.public.push_items.Given as goal

-- the publics so far, and those that are left
abbrev pub invariant-loop-public : goal.invariant-loop-public
invariant-loop-public l = l.all.items ++ publics_at l.base l.public-iterator ≡ l.fn.all.items ++ publics_at l.base l.fn.publics

use Rattle.std.proofs.Common.{◌≡◌, ◌++◌}
use Rattle.std.specs.Prelude.{map}
use Rattle.omf_layout.specs.Own.Claims.{public_claim}
use Rattle.omf_layout.specs.Several.Gathered.{named}
use Rattle.omf_layout.proofs.own.claims.add_publics.Given as goal

-- the claims so far, and those that are left
abbrev pub invariant-loop-item : goal.invariant-loop-item
invariant-loop-item l = map named l.claims.items ++ map public_claim l.item-iterator ≡ map named l.fn.claims.items ++ map public_claim l.fn.items

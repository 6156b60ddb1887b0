use Rattle.std.proofs.Common.{◌≡◌, drop}
use Rattle.std.specs.Prelude.{◌||◌, map}
use Rattle.omf_layout.specs.Several.Gathered.{named}
use Rattle.omf_layout.specs.Own.Order.{has_claim}
use Rattle.omf_layout.proofs.own.ends.has_claim.Given as goal

-- one so far, or one of those that are left
abbrev pub invariant-loop-own : goal.invariant-loop-own
invariant-loop-own l = (l.found || has_claim (map named (drop l.own-index l.claims)) l.name) ≡ has_claim (map named l.claims) l.name

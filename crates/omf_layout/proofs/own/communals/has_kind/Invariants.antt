use Rattle.std.proofs.Common.{◌≡◌, drop}
use Rattle.std.specs.Prelude.{◌||◌}
use Rattle.omf_layout.specs.Own.Communals.{has_kind}
use Rattle.omf_layout.proofs.own.communals.has_kind.Given as goal

-- one so far, or one of those that are left
abbrev pub invariant-loop-claim : goal.invariant-loop-claim
invariant-loop-claim l = (l.found || has_kind l.kind (drop l.claim-index l.run)) ≡ has_kind l.kind l.run

use Rattle.std.proofs.Common.{◌≡◌, drop}
use Rattle.std.specs.Prelude.{max}
use Rattle.omf_layout.specs.Own.Communals.{largest}
use Rattle.omf_layout.proofs.own.communals.largest.Given as goal

-- the largest so far, and of those that are left
abbrev pub invariant-loop-claim : goal.invariant-loop-claim
invariant-loop-claim l = max l.largest (largest (drop l.claim-index l.run)) ≡ largest l.run

use Rattle.std.proofs.Common.{◌≡◌, ◌≤◌, drop}
use Rattle.std.specs.Prelude.{max}
use Rattle.omf_layout.specs.Several.Laying.{strictest}
use Rattle.omf_layout.proofs.several.laying.strictest.Given as goal

-- the strictest so far, and of those that are left
abbrev pub invariant-loop-portion : goal.invariant-loop-portion
invariant-loop-portion l = record {
  same : max l.strictest (strictest (drop l.portion-index l.portions)) ≡ strictest l.portions;
  some : 1 ≤ l.strictest;
}

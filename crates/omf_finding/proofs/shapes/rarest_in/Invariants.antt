use Rattle.std.proofs.Common.{◌≡◌, None}
use Rattle.std.specs.Prelude.{IfSome}
use Rattle.omf_finding.specs.Inner.Shaping.{HasNoneBelow, IsRareIn}
use Rattle.omf_finding.proofs.shapes.rarest_in.Given as goal

-- the rarest so far; none only if there is none
abbrev pub invariant-loop-at : goal.invariant-loop-at
invariant-loop-at l = record {
  some : IfSome l.rarest (IsRareIn l.interval);
  none : l.rarest ≡ None → HasNoneBelow l.interval l.at;
}

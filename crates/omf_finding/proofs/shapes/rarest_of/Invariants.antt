use Rattle.std.proofs.Common.{◌≡◌, None, take}
use Rattle.std.specs.Prelude.{All, IfSome}
use Rattle.omf_finding.specs.Inner.Shaping.{HasNone, IsRareOf}
use Rattle.omf_finding.proofs.shapes.rarest_of.Given as goal

-- the rarest so far; none only if there is none
abbrev pub invariant-loop-interval : goal.invariant-loop-interval
invariant-loop-interval l = record {
  some : IfSome l.rarest (IsRareOf l.intervals);
  none : l.rarest ≡ None → All HasNone (take l.interval-index l.intervals);
}

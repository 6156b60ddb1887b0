use Rattle.std.proofs.Common.{◌≡◌, ◌+◌, ◌-◌, ◌≤◌, ◌⊎◌, ◌^◌}
use Rattle.std.specs.Io.KnownBytes.{Keeps}
use Rattle.omf_frame.proofs.pull.pull_piece.Given as goal

-- each attempt so far was interrupted, and took nothing
abbrev pub invariant-loop-attempt : goal.invariant-loop-attempt
invariant-loop-attempt g l = record {
  tried : ((g.S.Source.seen l.initial.source).failures + l.attempt ≤ (g.S.Source.seen l.source).failures) ⊎ (2 ^ 64 - 1 ≤ (g.S.Source.seen l.source).failures);
  grows : (g.S.Source.seen l.initial.source).failures ≤ (g.S.Source.seen l.source).failures;
  bounded : (g.S.Source.seen l.source).failures ≤ (g.S.Source.seen l.initial.source).failures + l.attempt;
  unbroken : (g.S.Source.seen l.source).breaks ≡ (g.S.Source.seen l.initial.source).breaks;
  kept : Keeps (g.S.Source.seen l.initial.source).bytes (g.S.Source.seen l.source).bytes;
}

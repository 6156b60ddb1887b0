use Rattle.std.proofs.Common.{◌≡◌, ◌+◌, ◌-◌, ◌*◌, ◌≤◌, ◌⊎◌, ◌^◌, length}
use Rattle.omf_frame.proofs.Pushed.{IsPartly}
use Rattle.omf_frame.proofs.write.push_all.Given as goal

-- what was pushed is a part from the front, and the rest is still to be pushed
abbrev pub invariant-loop-rest : goal.invariant-loop-rest
invariant-loop-rest g l = record {
  partly : IsPartly (g.S.Sink.seen l.initial.writer).bytes (g.S.Sink.seen l.writer).bytes l.rest l.bytes;
  patient : l.interrupted ≤ 999;
  settled : l.interrupted ≤ 999 * length l.rest;
  tried : ((g.S.Sink.seen l.initial.writer).failures + l.interrupted ≤ (g.S.Sink.seen l.writer).failures) ⊎ (2 ^ 64 - 1 ≤ (g.S.Sink.seen l.writer).failures);
  grows : (g.S.Sink.seen l.initial.writer).failures ≤ (g.S.Sink.seen l.writer).failures;
  bounded : (g.S.Sink.seen l.writer).failures + 1000 * length l.rest ≤ (g.S.Sink.seen l.initial.writer).failures + 1000 * length l.bytes + l.interrupted;
  unbroken : (g.S.Sink.seen l.writer).breaks ≡ (g.S.Sink.seen l.initial.writer).breaks;
}

abbrev pub decreases-loop-rest : goal.decreases-loop-rest
decreases-loop-rest g l = 1000 * length l.rest + (999 - l.interrupted)

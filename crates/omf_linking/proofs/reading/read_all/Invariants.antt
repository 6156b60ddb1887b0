use Rattle.std.proofs.Common.{◌≡◌, ◌+◌, ◌*◌, ◌≤◌, length}
use Rattle.std.specs.Io.KnownBytes.{Consumes}
use Rattle.omf_linking.proofs.reading.read_all.Given as goal

-- the bytes so far were read, and the reader did not break, nor fail more than a thousand times for each
abbrev pub invariant-loop : goal.invariant-loop
invariant-loop g l = record {
  consumed : Consumes (g.S.Source.seen l.initial.source).bytes (g.S.Source.seen l.source).bytes l.bytes.items;
  whole : (g.S.Source.seen l.source).breaks ≡ (g.S.Source.seen l.initial.source).breaks;
  bounded : (g.S.Source.seen l.source).failures ≤ (g.S.Source.seen l.initial.source).failures + 1000 * length l.bytes.items;
  grown : (g.S.Source.seen l.initial.source).failures ≤ (g.S.Source.seen l.source).failures;
}

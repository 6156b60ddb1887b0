use Rattle.std.proofs.Common.{◌≤◌, ◌+◌, ◌-◌, ◌*◌, vec_len}
use Rattle.std.specs.Io.KnownBytes.{Consumes}
use Rattle.omf_cmd.specs.Runs.{IsUnbroken}
use Rattle.omf_cmd.proofs.input.read_text.Given as goal

-- the text so far was read
abbrev pub invariant-loop-count : goal.invariant-loop-count
invariant-loop-count g l = record {
  short : vec_len l.text ≤ 4194304;
  consumed : Consumes (g.S.Source.seen l.initial.source).bytes (g.S.Source.seen l.source).bytes l.text.items;
  bounded : (g.S.Source.seen l.source).failures ≤ (g.S.Source.seen l.initial.source).failures + 1000 * vec_len l.text;
  unbroken : IsUnbroken (g.S.Source.seen l.initial.source) (g.S.Source.seen l.source);
}

abbrev pub decreases-loop-count : goal.decreases-loop-count
decreases-loop-count g l = 4194304 - vec_len l.text

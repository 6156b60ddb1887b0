use Rattle.std.proofs.Common.{◌≡◌, flat_map, map, drop}
use Rattle.omf_cmd.specs.Printed.{spaced}
use Rattle.omf_cmd.proofs.Written.{IsUpTo}
use Rattle.omf_cmd.proofs.line.write_words.Given as goal

-- the words from this one on are still to be written
abbrev pub invariant-loop-word : goal.invariant-loop-word
invariant-loop-word g l = IsUpTo (g.K.Sink.seen l.initial.writer) (g.K.Sink.seen l.writer) (flat_map spaced (map (λ word. word.now) l.words)) (flat_map spaced (map (λ word. word.now) (drop l.word-index l.words)))

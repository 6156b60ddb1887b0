use Rattle.std.proofs.Common.{◌≡◌, ◌++◌, ◌∷◌, [], flat_map, map, drop}
use Rattle.omf_cmd.specs.Inner.FaultWords.{word_text}
use Rattle.omf_cmd.specs.Printed.{line, spaced}
use Rattle.omf_cmd.proofs.Written.{IsUpTo}
use Rattle.omf_cmd.proofs.printed.write_pieces.Given as goal

-- the words from this one on are still to be written
abbrev pub invariant-loop-word : goal.invariant-loop-word
invariant-loop-word g l =
    IsUpTo (g.K.Sink.seen l.initial.writer) (g.K.Sink.seen l.writer) (line (map word_text l.words)) (flat_map spaced (map word_text (drop l.word-index l.front)) ++ line (word_text l.last ∷ []))

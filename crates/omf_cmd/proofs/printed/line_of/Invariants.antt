use Rattle.std.proofs.Common.{◌≡◌, ◌++◌, ◌∷◌, drop, flat_map, map, string_bytes}
use Rattle.omf_placement.specs.Entries.{in_words}
use Rattle.omf_cmd.specs.Inner.FaultWords.{word_text}
use Rattle.omf_cmd.proofs.printed.line_of.Given as goal

-- the words so far, and those that are left, each after a space
abbrev pub invariant-loop-word : goal.invariant-loop-word
invariant-loop-word l = string_bytes l.line ++ flat_map (λ word. 32 ∷ word_text word) (drop l.word-index l.rest) ≡ in_words (map word_text l.fn.words)

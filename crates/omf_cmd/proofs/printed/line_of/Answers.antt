use Rattle.std.proofs.Common.{◌++◌, ◌∷◌, ◌-◌, ◌∙◌, ap, drop, flat_map, length, string_bytes, take}
use Rattle.omf_cmd.specs.Inner.FaultWords.{word_text}
use Rattle.omf_cmd.proofs.Written.{words_joined}
use Rattle.omf_cmd.proofs.printed.line_of.Goals as goal

pub loop-word-init : goal.loop-word-init
loop-word-init c =
    let words = c.args.words.now in
    let first = rw c.new-line.ensures.bytes at c.in_ok-push_word.ensures in
    ap (λ t. t ++ flat_map (λ word. 32 ∷ word_text word) (take (length words - 1) (drop 1 words))) first ∙ words_joined word_text words _ c.in-len1-up.len_at_least

use Rattle.std.proofs.Common.{◌≡◌, ◌++◌, drop}
use Rattle.omf_linking.specs.FoldedText.{folded_from, folded_text}
use Rattle.omf_linking.proofs.folding.text.folded_text.Given as goal

-- the bytes so far are folded, and the others are left
abbrev pub invariant-loop-byte : goal.invariant-loop-byte
invariant-loop-byte l = l.folded.items ++ folded_from l.part (drop l.byte-index l.text) ≡ folded_text l.text

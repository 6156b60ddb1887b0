use Rattle.std.proofs.Common.{◌≡◌, ◌++◌, drop}
use Rattle.omf_linking.specs.PlainText.{plain_from, plain_text}
use Rattle.omf_linking.proofs.plain.plain_text.Given as goal

-- the bytes so far are as they are read, and the others are left
abbrev pub invariant-loop-byte : goal.invariant-loop-byte
invariant-loop-byte l = l.plain.items ++ plain_from l.side (drop l.byte-index l.text) ≡ plain_text l.fn.text

use Rattle.std.proofs.Common.{◌≡◌, map, string_bytes, take}
use Rattle.omf_drafting.proofs.asked.first_words.Given as goal

-- the arguments so far are copied
abbrev pub invariant-loop-argument : goal.invariant-loop-argument
invariant-loop-argument l = map string_bytes l.words.items ≡ map string_bytes (take l.argument-index l.arguments)

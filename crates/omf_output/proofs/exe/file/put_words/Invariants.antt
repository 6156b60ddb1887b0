use Rattle.std.proofs.Common.{◌≡◌, ◌++◌}
use Rattle.std.specs.Prelude.{drop}
use Rattle.omf_output.specs.Exe.Exe.{as_bytes}
use Rattle.omf_output.proofs.exe.file.put_words.Given as goal

-- what was appended and what is left are the words
abbrev pub invariant-loop-word : goal.invariant-loop-word
invariant-loop-word l = l.file.items ++ as_bytes (drop l.word-index l.words) ≡ l.fn.file.items ++ as_bytes l.fn.words

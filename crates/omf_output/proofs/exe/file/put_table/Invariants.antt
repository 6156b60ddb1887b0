use Rattle.std.proofs.Common.{◌≡◌, ◌++◌, flat_map}
use Rattle.std.specs.Prelude.{drop}
use Rattle.omf_output.specs.Exe.Exe.{as_bytes, entry_of}
use Rattle.omf_output.proofs.exe.file.put_table.Given as goal

-- what was appended and what is left are the table
abbrev pub invariant-loop-at : goal.invariant-loop-at
invariant-loop-at l = l.file.items ++ as_bytes (flat_map entry_of (drop l.at-index l.words)) ≡ l.fn.file.items ++ as_bytes (flat_map entry_of l.fn.words)

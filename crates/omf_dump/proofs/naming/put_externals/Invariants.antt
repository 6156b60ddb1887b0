use Rattle.std.proofs.Common.{◌≡◌, ◌+◌, ◌++◌, length}
use Rattle.omf_dump.specs.Inner.Naming.{lines_of}
use Rattle.omf_dump.specs.Names.{external_rows}
use Rattle.omf_dump.proofs.naming.put_externals.Given as goal

-- the lines so far, and those of the externals that are left; the index of the next one
abbrev pub invariant-loop-external : goal.invariant-loop-external
invariant-loop-external l = record {
  text : l.text.items ++ lines_of l.names (external_rows l.names.facts l.is_local l.index l.external-iterator) ≡ l.fn.text.items ++ lines_of l.names (external_rows l.names.facts l.is_local l.first l.fn.externals);
  room : l.index + length l.external-iterator ≡ l.first + length l.fn.externals;
}

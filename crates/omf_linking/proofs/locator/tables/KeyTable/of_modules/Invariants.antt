use Rattle.std.proofs.Common.{◌≤◌, length}
use Rattle.omf_check.specs.Module.{typed_modules}
use Rattle.omf_linking.specs.Inner.KeyTables.{IsKeyTable, module_text}
use Rattle.omf_linking.specs.Locator.Keys.{count_from}
use Rattle.omf_linking.proofs.locator.tables.KeyTable.of_modules.Given as goal

-- the modules so far are in the table
abbrev pub invariant-loop-j : goal.invariant-loop-j
invariant-loop-j l = record {
  low : l.j ≤ length l.modules;
  table : IsKeyTable (module_text (typed_modules l.modules)) (count_from 0 l.j) l.table.by_text;
}

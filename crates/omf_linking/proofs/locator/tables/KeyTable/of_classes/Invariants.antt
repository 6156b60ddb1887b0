use Rattle.std.proofs.Common.{◌≡◌, ◌≤◌}
use Rattle.omf_check.specs.Module.{records_in}
use Rattle.omf_check.specs.WellFormed.{recs}
use Rattle.omf_reloc.specs.Reach.{entries}
use Rattle.omf_reloc.specs.declared.fault.Kind.TheVariants.{Segment}
use Rattle.omf_linking.specs.Inner.KeyTables.{IsKeyTable, class_text}
use Rattle.omf_linking.specs.Locator.Keys.{count_from}
use Rattle.omf_linking.proofs.locator.tables.KeyTable.of_classes.Given as goal

-- the segments so far are in the table
abbrev pub invariant-loop-before : goal.invariant-loop-before
invariant-loop-before l = let m = recs (records_in l.«module».bytes) in record {
  end : l.before-end ≡ entries m Segment;
  low : l.before ≤ l.before-end;
  table : IsKeyTable (class_text m) (count_from 1 l.before) l.table.by_text;
}

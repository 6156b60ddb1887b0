use Rattle.std.proofs.Common.{drop}
use Rattle.std.specs.Prelude.{map, string_bytes}
use Rattle.omf_placement.proofs.Filling.{IsFilled}
use Rattle.omf_linking.specs.Locator.KeyForms.{IsTextTable}
use Rattle.omf_linking.proofs.locator.forms.TextTable.of.Given as goal

-- the texts so far are in the table
abbrev pub invariant-loop-text : goal.invariant-loop-text
invariant-loop-text l = IsFilled IsTextTable l.initial.table.repeated l.table.repeated (map string_bytes (drop l.text-index l.texts)) (map string_bytes l.texts)

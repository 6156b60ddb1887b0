use Rattle.std.proofs.Common.{◌≡◌, ◌+◌, ◌-◌, ◌++◌}
use Rattle.std.specs.Prelude.{map}
use Rattle.std.specs.List.{range_with_len}
use Rattle.omf_check.specs.Module.{records_in}
use Rattle.omf_check.specs.WellFormed.{recs}
use Rattle.omf_linking.specs.Locator.KeyForms.{owns}
use Rattle.omf_reloc.specs.Reach.{entries}
use Rattle.omf_linking.proofs.locator.forms.owned.Given as goal

-- whether each entry so far has a key of its own, and those that are left
abbrev pub invariant-loop-before : goal.invariant-loop-before
invariant-loop-before l = let m = recs (records_in l.«module».bytes) in record {
  end : l.before-end ≡ entries m l.kind;
  made : l.owned.items ++ map (owns m l.kind l.form) (range_with_len (l.before + 1) (entries m l.kind - l.before)) ≡ map (owns m l.kind l.form) (range_with_len 1 (entries m l.kind));
}

use Rattle.std.proofs.Common.{◌≡◌, ◌≤◌, ◌++◌, map}
use Rattle.std.specs.List.{filter}
use Rattle.omf_check.specs.Module.{records_in}
use Rattle.omf_check.specs.WellFormed.{recs}
use Rattle.omf_reloc.specs.Reach.{entries}
use Rattle.omf_reloc.specs.declared.fault.Kind.TheVariants.{Group}
use Rattle.omf_linking.specs.Locator.Keys.{count_from, entry_name, is_written}
use Rattle.omf_linking.proofs.locator.parts.add_groups.Given as goal

-- the groups so far
abbrev pub invariant-loop-before : goal.invariant-loop-before
invariant-loop-before l = let m = recs (records_in l.«module».bytes) in record {
  end : l.before-end ≡ entries m Group;
  low : l.before ≤ l.before-end;
  here : l.groups.items ≡ l.fn.groups.items ++ map (λ i. (l.number, i)) (filter (λ i. is_written l.name (entry_name m Group i)) (count_from 1 l.before));
}

use Rattle.std.proofs.Common.{◌≡◌, ◌+◌, ◌-◌, ◌++◌}
use Rattle.std.specs.Prelude.{map, string_bytes}
use Rattle.std.specs.List.{range_with_len}
use Rattle.omf_check.specs.Module.{records_in}
use Rattle.omf_check.specs.WellFormed.{recs}
use Rattle.omf_linking.specs.Locator.KeyForms.{class_texts, shown}
use Rattle.omf_linking.specs.Locator.Keys.{class_name}
use Rattle.omf_reloc.specs.declared.fault.Kind.TheVariants.{Segment}
use Rattle.omf_reloc.specs.Reach.{entries}
use Rattle.omf_linking.proofs.locator.forms.class_texts.Given as goal

-- the classes so far, and those that are left
abbrev pub invariant-loop-before : goal.invariant-loop-before
invariant-loop-before l = let m = recs (records_in l.«module».bytes) in record {
  end : l.before-end ≡ entries m Segment;
  made : map string_bytes l.texts.items ++ map (λ i. shown (class_name m i)) (range_with_len (l.before + 1) (entries m Segment - l.before)) ≡ class_texts m;
}

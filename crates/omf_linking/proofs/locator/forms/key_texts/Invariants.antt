use Rattle.std.proofs.Common.{◌≡◌, ◌+◌, ◌-◌, ◌++◌}
use Rattle.std.specs.Prelude.{map, string_bytes}
use Rattle.std.specs.List.{range_with_len}
use Rattle.omf_check.specs.Module.{records_in}
use Rattle.omf_check.specs.WellFormed.{recs}
use Rattle.omf_linking.specs.Locator.KeyForms.{key_text, key_texts}
use Rattle.omf_reloc.specs.Reach.{entries}
use Rattle.omf_linking.proofs.locator.forms.key_texts.Given as goal

-- the keys so far, and those that are left
abbrev pub invariant-loop-before : goal.invariant-loop-before
invariant-loop-before l = let m = recs (records_in l.«module».bytes) in record {
  end : l.before-end ≡ entries m l.kind;
  made : map string_bytes l.texts.items ++ map (key_text m l.kind l.form) (range_with_len (l.before + 1) (entries m l.kind - l.before)) ≡ key_texts m l.kind l.form;
}

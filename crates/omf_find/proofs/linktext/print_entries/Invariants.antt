use Rattle.std.proofs.Common.{◌≡◌, ◌+◌, ◌-◌, ◌++◌}
use Rattle.std.specs.Prelude.{flat_map, string_bytes}
use Rattle.std.specs.List.{range_with_len}
use Rattle.omf_check.specs.Module.{records_in}
use Rattle.omf_check.specs.WellFormed.{recs}
use Rattle.omf_reloc.specs.Reach.{entries}
use Rattle.omf_find.specs.LinkText.{entry_line, entry_lines}
use Rattle.omf_find.proofs.linktext.print_entries.Given as goal

-- the lines so far, and those that are left
abbrev pub invariant-loop-before : goal.invariant-loop-before
invariant-loop-before l = let m = recs (records_in l.«module».bytes) in record {
  end : l.before-end ≡ entries m l.kind;
  lines : string_bytes l.text ++ flat_map (entry_line m l.placement l.kind) (range_with_len (l.before + 1) (entries m l.kind - l.before)) ≡ string_bytes l.fn.text ++ entry_lines m l.placement l.kind;
}

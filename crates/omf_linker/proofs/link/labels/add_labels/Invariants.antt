use Rattle.std.proofs.Common.{◌≡◌, ◌≤◌, ◌++◌, map}
use Rattle.std.specs.Prelude.{string_bytes}
use Rattle.omf_linker.specs.Link.Files.{module_labels}
use Rattle.omf_linker.proofs.link.labels.add_labels.Given as goal

-- the labels so far
abbrev pub invariant-loop-before : goal.invariant-loop-before
invariant-loop-before l = record {
  low : l.before ≤ l.count;
  held : map string_bytes l.labels.items ≡ map string_bytes l.fn.labels.items ++ module_labels l.name l.before;
}

use Rattle.std.proofs.Common.{◌≡◌, ◌++◌, drop}
use Rattle.std.specs.Prelude.{map, string_bytes}
use Rattle.omf_check.specs.Module.{typed_modules}
use Rattle.omf_lines.specs.TextLines.{groups_in}
use Rattle.omf_lines.proofs.text_line.groups_in.Given as goal

-- the texts of the modules so far, and of those that are left
abbrev pub invariant-loop-module : goal.invariant-loop-module
invariant-loop-module l = map string_bytes l.texts.items ++ groups_in (typed_modules (drop l.module-index l.modules)) ≡ groups_in (typed_modules l.modules)

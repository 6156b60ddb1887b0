use Rattle.std.proofs.Common.{◌≡◌, drop}
use Rattle.omf_check.specs.Module.{typed_modules}
use Rattle.omf_lines.specs.TextLines.{opened_by_name}
use Rattle.omf_lines.proofs.text_line.named_module.Given as goal

-- the first of the modules that are left is the first of all
abbrev pub invariant-loop-module : goal.invariant-loop-module
invariant-loop-module l = opened_by_name (typed_modules (drop l.module-index l.modules)) l.key ≡ opened_by_name (typed_modules l.modules) l.key

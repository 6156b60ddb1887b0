use Rattle.std.proofs.Common.{◌≡◌, drop}
use Rattle.std.specs.List.{list_any}
use Rattle.omf_check.specs.Module.{typed_modules}
use Rattle.omf_drafting.specs.Suiting.{has_use32}
use Rattle.omf_drafting.proofs.suiting.have_use32.Given as goal

-- the modules that are left decide
abbrev pub invariant-loop-module : goal.invariant-loop-module
invariant-loop-module l = list_any has_use32 (typed_modules (drop l.module-index l.modules)) ≡ list_any has_use32 (typed_modules l.modules)

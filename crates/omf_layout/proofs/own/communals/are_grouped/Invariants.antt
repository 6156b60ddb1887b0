use Rattle.std.proofs.Common.{◌≡◌, drop}
use Rattle.std.specs.Prelude.{◌||◌}
use Rattle.omf_check.specs.Module.{typed_modules}
use Rattle.omf_layout.specs.Own.Communals.{are_grouped}
use Rattle.omf_layout.proofs.own.communals.are_grouped.Given as goal

-- one so far, or one of those that are left
abbrev pub invariant-loop-module : goal.invariant-loop-module
invariant-loop-module l = (l.found || are_grouped (typed_modules (drop l.module-index l.modules))) ≡ are_grouped (typed_modules l.modules)

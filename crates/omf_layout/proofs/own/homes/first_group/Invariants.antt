use Rattle.std.proofs.Common.{◌≡◌, drop}
use Rattle.omf_check.specs.Module.{typed_modules}
use Rattle.omf_layout.specs.Own.Homes.{first_group}
use Rattle.omf_layout.proofs.own.homes.first_group.Given as goal

-- none so far, so the first of those that are left
abbrev pub invariant-loop-module : goal.invariant-loop-module
invariant-loop-module l = first_group l.key (typed_modules (drop l.module-index l.modules)) ≡ first_group l.key (typed_modules l.modules)

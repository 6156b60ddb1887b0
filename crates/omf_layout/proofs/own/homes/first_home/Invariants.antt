use Rattle.std.proofs.Common.{◌≡◌, drop}
use Rattle.omf_check.specs.Module.{typed_modules}
use Rattle.omf_layout.specs.Own.Homes.{first_home}
use Rattle.omf_layout.proofs.own.homes.first_home.Given as goal

-- no start so far, so the first of those that are left
abbrev pub invariant-loop-module : goal.invariant-loop-module
invariant-loop-module l = let ms = typed_modules l.modules in first_home ms (typed_modules (drop l.module-index l.modules)) ≡ first_home ms ms

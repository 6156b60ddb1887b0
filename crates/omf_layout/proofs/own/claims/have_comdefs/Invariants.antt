use Rattle.std.proofs.Common.{◌≡◌, drop}
use Rattle.std.specs.Prelude.{◌||◌}
use Rattle.omf_check.specs.Module.{typed_modules}
use Rattle.omf_layout.specs.Own.Claims.{have_comdefs}
use Rattle.omf_layout.proofs.own.claims.have_comdefs.Given as goal

-- one so far, or one of those that are left
abbrev pub invariant-loop-module : goal.invariant-loop-module
invariant-loop-module l = (l.found || have_comdefs (typed_modules (drop l.module-index l.modules))) ≡ have_comdefs (typed_modules l.modules)

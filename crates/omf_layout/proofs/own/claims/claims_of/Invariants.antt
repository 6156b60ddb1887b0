use Rattle.std.proofs.Common.{◌≡◌, ◌++◌, drop}
use Rattle.std.specs.Prelude.{map}
use Rattle.omf_check.specs.Module.{typed_modules}
use Rattle.omf_layout.specs.Own.Claims.{all_claims}
use Rattle.omf_layout.specs.Several.Gathered.{named}
use Rattle.omf_layout.proofs.own.claims.claims_of.Given as goal

-- the claims of the modules so far, and of those that are left
abbrev pub invariant-loop-module : goal.invariant-loop-module
invariant-loop-module l = map named l.claims.items ++ all_claims (typed_modules (drop l.module-index l.modules)) ≡ all_claims (typed_modules l.modules)

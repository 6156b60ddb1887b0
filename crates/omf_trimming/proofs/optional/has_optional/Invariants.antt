use Rattle.std.proofs.Common.{◌≡◌, drop}
use Rattle.omf_check.specs.Module.{typed_modules}
use Rattle.omf_trimming.specs.Reaching.{has_optional}
use Rattle.omf_trimming.proofs.optional.has_optional.Given as goal

-- the modules that are left decide
abbrev pub invariant-loop-module : goal.invariant-loop-module
invariant-loop-module l = has_optional l.left_out (typed_modules (drop l.module-index l.modules)) ≡ has_optional l.left_out (typed_modules l.modules)

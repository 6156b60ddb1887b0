use Rattle.std.proofs.Common.{◌≡◌, drop}
use Rattle.std.specs.Prelude.{◌||◌}
use Rattle.omf_check.specs.Module.{typed_modules}
use Rattle.omf_layout.specs.Own.Order.{ask_for}
use Rattle.omf_layout.proofs.own.ends.ask_for.Given as goal

-- one so far, or one of those that are left
abbrev pub invariant-loop-module : goal.invariant-loop-module
invariant-loop-module l = (l.found || ask_for l.name (typed_modules (drop l.module-index l.modules))) ≡ ask_for l.name (typed_modules l.modules)

use Rattle.std.proofs.Common.{◌≡◌, drop}
use Rattle.std.specs.Prelude.{◌||◌}
use Rattle.omf_check.specs.Module.{typed_modules}
use Rattle.omf_layout.specs.Own.Order.{ask_dos_order}
use Rattle.omf_layout.proofs.own.order.ask_dos_order.Given as goal

-- one so far, or one of those that are left
abbrev pub invariant-loop-module : goal.invariant-loop-module
invariant-loop-module l = (l.found || ask_dos_order (typed_modules (drop l.module-index l.modules))) ≡ ask_dos_order (typed_modules l.modules)

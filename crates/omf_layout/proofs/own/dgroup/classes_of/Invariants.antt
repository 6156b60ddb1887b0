use Rattle.std.proofs.Common.{◌≡◌, ◌++◌, drop}
use Rattle.std.specs.Prelude.{map}
use Rattle.omf_check.specs.Module.{typed_modules}
use Rattle.omf_layout.specs.Own.Order.{dgroup_classes}
use Rattle.omf_layout.proofs.own.dgroup.classes_of.Given as goal

-- the classes of the modules so far, and of those that are left
abbrev pub invariant-loop-module : goal.invariant-loop-module
invariant-loop-module l = map (λ c. c.now) l.classes.items ++ dgroup_classes (typed_modules (drop l.module-index l.modules)) ≡ dgroup_classes (typed_modules l.modules)

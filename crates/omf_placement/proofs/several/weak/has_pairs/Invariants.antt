use Rattle.std.proofs.Common.{◌≡◌, drop}
use Rattle.std.specs.Prelude.{flat_map}
use Rattle.omf_check.specs.Module.{typed_modules}
use Rattle.omf_placement.specs.Weak.{weak_pairs}
use Rattle.omf_placement.proofs.several.weak.has_pairs.Given as goal

-- the modules so far have no pairs
abbrev pub invariant-loop-module : goal.invariant-loop-module
invariant-loop-module l = flat_map weak_pairs (typed_modules (drop l.module-index l.modules)) ≡ flat_map weak_pairs (typed_modules l.modules)

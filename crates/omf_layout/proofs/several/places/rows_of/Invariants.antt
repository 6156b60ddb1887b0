use Rattle.std.proofs.Common.{◌≡◌, ◌++◌, drop}
use Rattle.std.specs.Prelude.{map}
use Rattle.omf_check.specs.Module.{typed_modules}
use Rattle.omf_layout.specs.Inner.Known.{no_places}
use Rattle.omf_layout.proofs.several.places.rows_of.Given as goal

-- the rows of the modules so far, and of those that are left
abbrev pub invariant-loop-module : goal.invariant-loop-module
invariant-loop-module l = map (λ r. r.items) l.rows.items ++ map no_places (typed_modules (drop l.module-index l.modules)) ≡ map no_places (typed_modules l.modules)

use Rattle.std.proofs.Common.{◌≡◌, ◌++◌, List, drop}
use Rattle.std.specs.Prelude.{map}
use Rattle.omf_check.specs.Module.{typed_modules}
use Rattle.omf_output.specs.Exe.Derived.{IsLowTable, Named, bases_in}
use Rattle.omf_output.proofs.exe.movement.all_bases.Given as goal

-- those of the modules so far, and of those that are left
abbrev pub invariant-loop-module : goal.invariant-loop-module
invariant-loop-module l = (ls : List Named) → IsLowTable l.table.by_name ls → l.bases.items ++ map (bases_in ls) (typed_modules (drop l.module-index l.modules)) ≡ map (bases_in ls) (typed_modules l.modules)

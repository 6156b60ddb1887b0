use Rattle.std.proofs.Common.{List, ◌++◌, drop}
use Rattle.std.specs.Prelude.{Option}
use Rattle.std.specs.List.{AllZip}
use Rattle.omf_check.specs.Module.{Module, typed_modules}
use Rattle.omf_aliases.specs.Inner.Aliases.{IsReplacement}
use Rattle.omf_aliases.proofs.following.replacements.Given as goal

-- the modules so far have their replacements, and the others are left
abbrev pub invariant-loop-module : goal.invariant-loop-module
invariant-loop-module l = (later : List (Option Module)) → AllZip (IsReplacement (typed_modules l.modules)) (drop l.module-index l.modules) later → AllZip (IsReplacement (typed_modules l.modules)) l.modules (l.all.items ++ later)

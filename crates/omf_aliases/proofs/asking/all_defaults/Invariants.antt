use Rattle.std.proofs.Common.{◌≡◌, ◌++◌, List, drop}
use Rattle.std.specs.Prelude.{flat_map}
use Rattle.omf_check.specs.Module.{typed_modules}
use Rattle.omf_records.specs.Values.{Rec}
use Rattle.omf_aliases.specs.Aliases.{defaults}
use Rattle.omf_aliases.specs.Inner.Aliases.{AreAliases}
use Rattle.omf_aliases.proofs.asking.all_defaults.Given as goal

-- the defaults so far, and those of the modules that are left
abbrev pub invariant-loop-module : goal.invariant-loop-module
invariant-loop-module l = (ms : List (List Rec)) → AreAliases l.aliases ms → l.all.items ++ flat_map (defaults ms) (typed_modules (drop l.module-index l.modules)) ≡ flat_map (defaults ms) (typed_modules l.modules)

use Rattle.std.proofs.Common.{◌≡◌, ◌++◌, drop}
use Rattle.std.specs.Prelude.{filter_map, map}
use Rattle.omf_check.specs.Module.{typed_modules}
use Rattle.omf_combining.specs.Classes.{leader}
use Rattle.omf_combining.proofs.classes.leaders.Given as goal

-- the empty segments so far, and those of the classes that are left
abbrev pub invariant-loop-class : goal.invariant-loop-class
invariant-loop-class l = let ms = typed_modules l.modules in l.found.items ++ filter_map (leader ms) (map (λ c. c.now) (drop l.class-index l.classes)) ≡ filter_map (leader ms) (map (λ c. c.now) l.classes)

use Rattle.std.proofs.Common.{◌≡◌, ◌++◌, drop}
use Rattle.std.specs.Prelude.{filter_map, map}
use Rattle.omf_check.specs.Module.{typed_modules}
use Rattle.omf_combining.specs.Mixed.{mixed_run}
use Rattle.omf_combining.proofs.mixed.all_mixed.Given as goal

-- the pairs so far, and those of the runs that are left
abbrev pub invariant-loop-run : goal.invariant-loop-run
invariant-loop-run l = let ms = typed_modules l.modules in l.all.items ++ filter_map (mixed_run ms) (map (λ r. r.items) (drop l.run-index l.runs)) ≡ filter_map (mixed_run ms) (map (λ r. r.items) l.runs)

use Rattle.std.proofs.Common.{◌≡◌, ◌++◌, drop}
use Rattle.std.specs.Prelude.{flat_map}
use Rattle.std.specs.List.{enumerate_from}
use Rattle.omf_placement.specs.Derive.{placed_modules}
use Rattle.omf_placement.specs.Weak.{weak_in, with_weak}
use Rattle.omf_placement.proofs.several.weak.with_weak.Given as goal

-- the entries so far, and those of the modules that are left
abbrev pub invariant-loop-j : goal.invariant-loop-j
invariant-loop-j l = let ms = placed_modules l.modules l.places in l.entries.items ++ flat_map (weak_in ms l.given) (enumerate_from l.j (drop l.j ms)) ≡ with_weak ms l.given

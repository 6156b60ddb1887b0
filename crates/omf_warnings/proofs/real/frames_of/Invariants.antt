use Rattle.std.proofs.Common.{◌≡◌, ◌++◌, ℕ, drop}
use Rattle.std.specs.Prelude.{flat_map}
use Rattle.std.specs.List.{enumerate_from}
use Rattle.omf_placement.specs.Derive.{PlacedModule, placed_modules}
use Rattle.omf_warnings.specs.RealMode.{all_small, small_in}
use Rattle.omf_warnings.proofs.real.frames_of.Given as goal

-- the frames so far with those of the modules to come are all
abbrev pub invariant-loop-j : goal.invariant-loop-j
invariant-loop-j l = let ms = placed_modules l.modules l.placements in
    l.frames.items ++ flat_map (λ (x : ℕ × PlacedModule). small_in x.0 x.1) (enumerate_from l.j (drop l.j ms)) ≡ all_small ms

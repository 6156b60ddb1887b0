use Rattle.std.proofs.Common.{◌≡◌, ◌++◌, ℕ, drop}
use Rattle.std.specs.Prelude.{flat_map, map}
use Rattle.std.specs.List.{enumerate_from}
use Rattle.omf_layout.specs.Several.Gathered.{named}
use Rattle.omf_placement.specs.Derive.{PlacedModule, placed_modules}
use Rattle.omf_warnings.specs.Frames.{all_groups, groups_in}
use Rattle.omf_warnings.proofs.frames.groups_of.Given as goal

-- the groups so far with those of the modules to come are all
abbrev pub invariant-loop-j : goal.invariant-loop-j
invariant-loop-j l = let ms = placed_modules l.modules l.placements in
    map named l.groups.items ++ flat_map (λ (x : ℕ × PlacedModule). groups_in x.0 x.1) (enumerate_from l.j (drop l.j ms)) ≡ all_groups ms

use Rattle.std.proofs.Common.{◌≡◌, ◌++◌, drop}
use Rattle.omf_placement.specs.Derive.{all_publics, placed_modules}
use Rattle.omf_listing.proofs.public.all_publics.Given as goal

-- the publics of the modules so far, and those of the modules that are left
abbrev pub invariant-loop-j : goal.invariant-loop-j
invariant-loop-j l = l.all.items ++ all_publics (drop l.j (placed_modules l.modules l.placements)) ≡ all_publics (placed_modules l.modules l.placements)

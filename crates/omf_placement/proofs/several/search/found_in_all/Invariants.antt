use Rattle.std.proofs.Common.{◌≡◌, drop}
use Rattle.omf_placement.specs.Derive.{all_publics, placed_modules}
use Rattle.omf_placement.specs.Inner.PublicTable.{found_over, found_among}
use Rattle.omf_placement.proofs.several.search.found_in_all.Given as goal

-- what is found so far, and the remaining modules
abbrev pub invariant-loop-j : goal.invariant-loop-j
invariant-loop-j l = found_over l.name l.found (all_publics (drop l.j (placed_modules l.modules l.placements))) ≡ found_among l.name (all_publics (placed_modules l.modules l.placements))

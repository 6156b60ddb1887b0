use Rattle.std.proofs.Common.{◌≡◌, ◌++◌, drop}
use Rattle.omf_placement.proofs.several.linkage.copies.Given as goal

-- the copies so far, and the placements that are left
abbrev pub invariant-loop-place : goal.invariant-loop-place
invariant-loop-place l = l.copies.items ++ drop l.place-index l.places ≡ l.places

use Rattle.std.proofs.Common.{◌≡◌, ◌++◌, drop}
use Rattle.std.specs.Prelude.{filter_map}
use Rattle.omf_layout.proofs.several.places.known_in.Given as goal

-- the places so far, and those that are left
abbrev pub invariant-loop-place : goal.invariant-loop-place
invariant-loop-place l = l.places.items ++ filter_map (λ p. p) (drop l.place-index l.row) ≡ filter_map (λ p. p) l.row

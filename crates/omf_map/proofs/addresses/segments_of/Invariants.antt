use Rattle.std.proofs.Common.{◌≡◌, ◌++◌, drop, map}
use Rattle.omf_map.specs.Addresses.{place_address}
use Rattle.omf_map.proofs.addresses.segments_of.Given as goal

-- those of the places so far, and those that are left
abbrev pub invariant-loop-place : goal.invariant-loop-place
invariant-loop-place l = l.addresses.items ++ map place_address (drop l.place-index l.place-items) ≡ map place_address l.placement.segments

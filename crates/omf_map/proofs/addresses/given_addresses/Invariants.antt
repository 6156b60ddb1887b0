use Rattle.std.proofs.Common.{◌≡◌, ◌++◌, drop, map}
use Rattle.omf_map.specs.Addresses.{given_address}
use Rattle.omf_map.proofs.addresses.given_addresses.Given as goal

-- those of the places so far, and those that are left
abbrev pub invariant-loop-place : goal.invariant-loop-place
invariant-loop-place l = l.addresses.items ++ map given_address (drop l.place-index l.places) ≡ map given_address l.places

use Rattle.std.proofs.Common.{◌≡◌, ◌++◌, drop, length, map}
use Rattle.omf_map.specs.Addresses.{addresses_of}
use Rattle.omf_map.proofs.listing.addresses_of_all.Given as goal

-- those of the placements so far, and those that are left
abbrev pub invariant-loop-placement : goal.invariant-loop-placement
invariant-loop-placement l = record {
  all : l.addresses.items ++ map addresses_of (drop l.placement-index l.placements) ≡ map addresses_of l.placements;
  count : length l.addresses.items ≡ l.placement-index;
}

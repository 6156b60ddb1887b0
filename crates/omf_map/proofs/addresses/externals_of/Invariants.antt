use Rattle.std.proofs.Common.{◌≡◌, ◌++◌, drop, map}
use Rattle.omf_map.specs.Addresses.{place_address}
use Rattle.omf_map.proofs.addresses.externals_of.Given as goal

-- those of the places so far, and those that are left
abbrev pub invariant-loop-before : goal.invariant-loop-before
invariant-loop-before l = l.addresses.items ++ map place_address (drop l.before l.placement.externals) ≡ map place_address l.placement.externals

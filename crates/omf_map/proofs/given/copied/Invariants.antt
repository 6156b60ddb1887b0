use Rattle.std.proofs.Common.{◌≡◌, ◌++◌, drop}
use Rattle.omf_map.proofs.given.copied.Given as goal

-- those so far, and those that are left
abbrev pub invariant-loop-address : goal.invariant-loop-address
invariant-loop-address l = l.copy.items ++ drop l.address-index l.addresses ≡ l.addresses

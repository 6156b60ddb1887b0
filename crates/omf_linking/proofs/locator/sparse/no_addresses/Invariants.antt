use Rattle.std.proofs.Common.{◌≡◌}
use Rattle.std.specs.Prelude.{None, replicate}
use Rattle.omf_linking.proofs.locator.sparse.no_addresses.Given as goal

-- these entries have nothing
abbrev pub invariant-loop-index : goal.invariant-loop-index
invariant-loop-index l = l.addresses.items ≡ replicate l._index None

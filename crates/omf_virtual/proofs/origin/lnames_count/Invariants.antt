use Rattle.std.proofs.Common.{◌≡◌, ◌≤◌, ◌+◌, drop, length}
use Rattle.std.specs.Prelude.{flat_map}
use Rattle.omf_virtual.specs.Virtual.{lnames_of, virtual_at}
use Rattle.omf_virtual.proofs.origin.lnames_count.Given as goal

-- the LNAMES so far, and those to come; no more so far than indices
abbrev pub invariant-loop-index : goal.invariant-loop-index
invariant-loop-index l = record {
  all : l.count + length (flat_map (λ i. lnames_of (virtual_at l.externals i)) (drop l.index-index l.indices)) ≡ length (flat_map (λ i. lnames_of (virtual_at l.externals i)) l.indices);
  few : l.count ≤ l.index-index;
}

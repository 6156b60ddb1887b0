use Rattle.std.proofs.Common.{◌≡◌, ◌++◌, drop}
use Rattle.std.specs.Prelude.{flat_map}
use Rattle.omf_frame.specs.Framing.{raw_bytes}
use Rattle.omf_virtual.specs.Virtual.{lnames_of, virtual_at}
use Rattle.omf_virtual.proofs.writing.put_names.Given as goal

-- the names so far, and those to come
abbrev pub invariant-loop-index : goal.invariant-loop-index
invariant-loop-index l = l.out.items ++ flat_map raw_bytes (flat_map (λ i. lnames_of (virtual_at l.externals i)) (drop l.index-index l.indices))
    ≡ l.fn.out.items ++ flat_map raw_bytes (flat_map (λ i. lnames_of (virtual_at l.externals i)) l.indices)

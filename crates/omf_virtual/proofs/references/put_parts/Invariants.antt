use Rattle.std.proofs.Common.{◌≡◌, ◌++◌, drop}
use Rattle.std.specs.Prelude.{flat_map}
use Rattle.omf_explicit.specs.Explicit.{part_bytes}
use Rattle.omf_virtual.specs.Virtual.{external_part}
use Rattle.omf_virtual.proofs.references.put_parts.Given as goal

-- the parts so far, and those to come
abbrev pub invariant-loop-part : goal.invariant-loop-part
invariant-loop-part l = l.out.items ++ flat_map (λ p. part_bytes l.kind (external_part l.externals p.item)) (drop l.part-index l.parts)
    ≡ l.fn.out.items ++ flat_map (λ p. part_bytes l.kind (external_part l.externals p.item)) l.parts

use Rattle.std.proofs.Common.{◌≡◌, ◌++◌, drop}
use Rattle.std.specs.Prelude.{flat_map}
use Rattle.omf_explicit.specs.Explicit.{part_bytes, plain_part}
use Rattle.omf_explicit.proofs.writing.put_parts.Given as goal

-- the parts so far, and those to come
abbrev pub invariant-loop-part : goal.invariant-loop-part
invariant-loop-part l = l.out.items ++ flat_map (λ p. part_bytes l.kind (plain_part l.table p.item)) (drop l.part-index l.parts)
    ≡ l.fn.out.items ++ flat_map (λ p. part_bytes l.kind (plain_part l.table p.item)) l.parts

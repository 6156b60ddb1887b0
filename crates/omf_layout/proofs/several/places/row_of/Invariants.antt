use Rattle.std.proofs.Common.{◌≡◌}
use Rattle.std.specs.Prelude.{None, map}
use Rattle.std.specs.List.{range_with_len}
use Rattle.omf_layout.proofs.several.places.row_of.Given as goal

-- these segments have no place
abbrev pub invariant-loop-index : goal.invariant-loop-index
invariant-loop-index l = l.row.items ≡ map (λ i. None) (range_with_len 1 l._index)

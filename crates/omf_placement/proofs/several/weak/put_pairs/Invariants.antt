use Rattle.std.proofs.Common.{◌≡◌, ◌++◌, drop}
use Rattle.std.specs.Prelude.{filter_map}
use Rattle.omf_placement.specs.Weak.{pair_given}
use Rattle.omf_placement.proofs.several.weak.put_pairs.Given as goal

-- the entries so far, and those of the pairs that are left
abbrev pub invariant-loop-pair : goal.invariant-loop-pair
invariant-loop-pair l = l.entries.items ++ filter_map (pair_given l.number l.outcomes) (drop l.pair-index l.pairs) ≡ l.fn.entries.items ++ filter_map (pair_given l.number l.outcomes) l.pairs

use Rattle.std.proofs.Common.{◌≡◌, ◌⊎◌, ◌≤◌, ℕ}
use Rattle.std.specs.BTreeMap.{btree_map_len}
use Rattle.omf_lowering.specs.Inner.Holders.{keyed}
use Rattle.omf_lowering.proofs.holders.Holders.clear.Given as goal

-- the other keys stay
abbrev pub invariant-loop-key : goal.invariant-loop-key
invariant-loop-key l = (k : ℕ) → (k ≤ l.first) ⊎ (l.end ≤ k) → keyed l.self.numbers k ≡ keyed l.fn.self.numbers k

abbrev pub decreases-loop-key : goal.decreases-loop-key
decreases-loop-key l = btree_map_len l.self.numbers

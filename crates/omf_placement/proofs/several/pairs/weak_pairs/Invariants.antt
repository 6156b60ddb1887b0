use Rattle.std.proofs.Common.{◌≡◌, ◌++◌}
use Rattle.std.specs.Prelude.{flat_map}
use Rattle.omf_check.specs.Module.{recs_of}
use Rattle.omf_placement.specs.Weak.{pairs_in, weak_pairs}
use Rattle.omf_placement.proofs.several.pairs.weak_pairs.Given as goal

-- the pairs so far, and those of the records to come
abbrev pub invariant-loop-rec : goal.invariant-loop-rec
invariant-loop-rec l = l.pairs.items ++ flat_map (λ x. pairs_in x.1.contents) l.rec-iterator ≡ weak_pairs (recs_of l.«module».bytes)

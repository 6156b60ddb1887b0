use Rattle.std.proofs.Common.{◌≡◌, ◌++◌}
use Rattle.std.specs.Prelude.{flat_map}
use Rattle.omf_check.specs.Module.{recs_of}
use Rattle.omf_library.specs.Needed.{weak_in, weak_indices}
use Rattle.omf_library.proofs.needed.weak.weak_indices.Given as goal

-- the indices so far, and those of the records to come
abbrev pub invariant-loop-rec : goal.invariant-loop-rec
invariant-loop-rec l = l.weak.items ++ flat_map (λ x. weak_in x.1.contents) l.rec-iterator ≡ weak_indices (recs_of l.«module».bytes)

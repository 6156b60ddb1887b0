use Rattle.std.proofs.Common.{◌≡◌, ◌++◌}
use Rattle.std.specs.Prelude.{flat_map}
use Rattle.omf_check.specs.Module.{recs_of}
use Rattle.omf_library.specs.Aliases.{alias_pairs, pairs_of}
use Rattle.omf_library.proofs.aliases.alias_pairs.Given as goal

-- the pairs so far, and those of the records to come
abbrev pub invariant-loop-rec : goal.invariant-loop-rec
invariant-loop-rec l = l.pairs.items ++ flat_map (λ x. pairs_of x.1.kind x.1.contents) l.rec-iterator ≡ alias_pairs (recs_of l.«module».bytes)

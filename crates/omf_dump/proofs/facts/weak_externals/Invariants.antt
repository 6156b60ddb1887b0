use Rattle.std.proofs.Common.{◌≡◌, ◌++◌}
use Rattle.std.specs.Prelude.{flat_map}
use Rattle.omf_check.specs.Module.{recs_of}
use Rattle.omf_dump.specs.Names.{weak_externals, weak_in}
use Rattle.omf_dump.proofs.facts.weak_externals.Given as goal

-- the externals so far, and those of the records to come
abbrev pub invariant-loop-rec : goal.invariant-loop-rec
invariant-loop-rec l = l.externals.items ++ flat_map (λ x. weak_in l.class x.1.contents) l.rec-iterator ≡ weak_externals l.class (recs_of l.«module».bytes)

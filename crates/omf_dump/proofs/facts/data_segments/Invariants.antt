use Rattle.std.proofs.Common.{◌≡◌, ◌++◌}
use Rattle.std.specs.Prelude.{flat_map}
use Rattle.omf_check.specs.Module.{recs_of}
use Rattle.omf_dump.specs.Names.{data_segment, data_segments}
use Rattle.omf_dump.proofs.facts.data_segments.Given as goal

-- the segments so far, and those of the records to come
abbrev pub invariant-loop-rec : goal.invariant-loop-rec
invariant-loop-rec l = l.segments.items ++ flat_map (λ x. data_segment x.1.contents) l.rec-iterator ≡ data_segments (recs_of l.«module».bytes)

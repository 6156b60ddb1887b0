use Rattle.std.proofs.Common.{◌≡◌, ◌++◌}
use Rattle.std.specs.Prelude.{flat_map}
use Rattle.omf_check.specs.Module.{recs_of}
use Rattle.omf_trimming.specs.Choice.{data_by, data_of}
use Rattle.omf_trimming.proofs.choice.parts.data_of.Given as goal

-- the data so far and those of the records to come are all
abbrev pub invariant-loop-record : goal.invariant-loop-record
invariant-loop-record l = l.parts.items ++ flat_map (λ x. data_by l.segment x.1.kind x.1.contents) l.record-iterator ≡ data_of l.segment (recs_of l.«module».bytes)

use Rattle.std.proofs.Common.{◌≡◌, ◌++◌}
use Rattle.std.specs.Prelude.{flat_map}
use Rattle.omf_trimming.specs.Inner.Rest.{thread_bytes}
use Rattle.omf_trimming.proofs.without.rest.threads_of.Given as goal

-- the THREADs so far and those to come are all
abbrev pub invariant-loop-subrecord : goal.invariant-loop-subrecord
invariant-loop-subrecord l = l.body.items ++ flat_map (λ s. thread_bytes l.kind s.item) l.subrecord-iterator ≡ flat_map (λ s. thread_bytes l.kind s.item) l.fn.subrecords

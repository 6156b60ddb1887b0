use Rattle.std.proofs.Common.{◌≡◌, ◌++◌, drop}
use Rattle.std.specs.Prelude.{flat_map}
use Rattle.omf_virtual.specs.Virtual.{indices_in}
use Rattle.omf_virtual.proofs.segment_data.indices.Given as goal

-- the indices of the records so far, and of those to come
abbrev pub invariant-loop-record : goal.invariant-loop-record
invariant-loop-record l = l.all.items ++ flat_map (indices_in l.externals) (drop l.record-index l.records) ≡ flat_map (indices_in l.externals) l.records

use Rattle.std.proofs.Common.{◌≡◌, ◌++◌, drop}
use Rattle.std.specs.Prelude.{flat_map}
use Rattle.omf_virtual.specs.Virtual.{externals_in}
use Rattle.omf_virtual.proofs.externals.externals.Given as goal

-- the externals of the records so far, and of those to come
abbrev pub invariant-loop-record : goal.invariant-loop-record
invariant-loop-record l = l.all.items ++ flat_map externals_in (drop l.record-index l.records) ≡ flat_map externals_in l.records

use Rattle.std.proofs.Common.{◌≡◌, ◌++◌, drop}
use Rattle.std.specs.Prelude.{flat_map}
use Rattle.omf_explicit.specs.Explicit.{numbers_of}
use Rattle.omf_explicit.proofs.numbers.numbers.Given as goal

-- the numbers of the records so far, and of those to come
abbrev pub invariant-loop-record : goal.invariant-loop-record
invariant-loop-record l = l.named.items ++ flat_map numbers_of (drop l.record-index l.records) ≡ flat_map numbers_of l.records

use Rattle.std.proofs.Common.{◌≡◌, ◌++◌, drop}
use Rattle.std.specs.Prelude.{map}
use Rattle.omf_aligned.specs.Inner.Counts.{count_of}
use Rattle.omf_aligned.specs.Origins.{counts}
use Rattle.omf_aligned.proofs.origin.counts_of.Given as goal

-- the counts so far, and those to come
abbrev pub invariant-loop-record : goal.invariant-loop-record
invariant-loop-record l = l.counts.items ++ map count_of (drop l.record-index l.records) ≡ counts l.records

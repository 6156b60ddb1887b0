use Rattle.std.proofs.Common.{◌≡◌, Ok, take}
use Rattle.omf_lowering.specs.Unrolled.{after_records}
use Rattle.omf_lowering.proofs.unroll.unrolled_records.Given as goal

abbrev pub invariant-loop-number : goal.invariant-loop-number
invariant-loop-number l = after_records (take l.number l.records) ≡ Ok l.work

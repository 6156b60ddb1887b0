use Rattle.std.proofs.Common.{length, map, string_bytes, take, drop}
use Rattle.omf_drafting.proofs.AskedLaws.{Going}
use Rattle.omf_drafting.proofs.asked.sorted.Given as goal

abbrev pub invariant-loop-rest : goal.invariant-loop-rest
invariant-loop-rest l = Going (take l.head (map string_bytes l.arguments)) (drop l.head (map string_bytes l.arguments)) (map string_bytes l.rest) l.asked

abbrev pub decreases-loop-rest : goal.decreases-loop-rest
decreases-loop-rest l = length l.rest

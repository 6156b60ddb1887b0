use Rattle.std.proofs.Common.{◌≡◌, ◌++◌, drop}
use Rattle.omf_trimming.specs.Inner.Reaching.{unmarked_from}
use Rattle.omf_trimming.proofs.reaching.walk.SegmentMarks.unmarked.Given as goal

-- the indices so far and those to come are all
abbrev pub invariant-loop-number : goal.invariant-loop-number
invariant-loop-number l = l.left.items ++ unmarked_from l.number (drop l.number l.self) ≡ unmarked_from 0 l.self

use Rattle.std.proofs.Common.{◌-◌, length}
use Rattle.omf_library.specs.Spans.{AreSpans}
use Rattle.omf_library.proofs.spans.spans_in.Given as goal

-- the members so far, after which the next page is
abbrev pub invariant-loop-at : goal.invariant-loop-at
invariant-loop-at l = AreSpans l.bytes l.page l.page l.members.items l.at

abbrev pub decreases-loop-at : goal.decreases-loop-at
decreases-loop-at l = length l.bytes - l.at

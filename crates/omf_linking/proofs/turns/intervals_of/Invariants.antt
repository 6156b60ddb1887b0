use Rattle.std.specs.Prelude.{All}
use Rattle.omf_image.specs.Painting.{Fits}
use Rattle.omf_linking.specs.Inner.Turning.{spots}
use Rattle.omf_linking.proofs.turns.intervals_of.Given as goal

-- the intervals so far are extents
abbrev pub invariant-loop-j : goal.invariant-loop-j
invariant-loop-j l = All Fits (spots l.intervals.items)

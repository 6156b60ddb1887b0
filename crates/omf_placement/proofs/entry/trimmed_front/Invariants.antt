use Rattle.std.proofs.Common.{◌≡◌, length}
use Rattle.omf_placement.specs.Entries.{without_spaces}
use Rattle.omf_placement.proofs.entry.trimmed_front.Given as goal

-- without spaces, the remaining text is the same as the text
abbrev pub invariant-loop-first : goal.invariant-loop-first
invariant-loop-first l = without_spaces l.left ≡ without_spaces l.text

abbrev pub decreases-loop-first : goal.decreases-loop-first
decreases-loop-first l = length l.left

use Rattle.std.proofs.Common.{◌≡◌, length}
use Rattle.std.specs.Prelude.{reverse}
use Rattle.omf_placement.specs.Entries.{without_spaces}
use Rattle.omf_placement.proofs.entry.trimmed_end.Given as goal

-- without spaces at the end, the remaining text is the same as the text
abbrev pub invariant-loop-last : goal.invariant-loop-last
invariant-loop-last l = without_spaces (reverse l.left) ≡ without_spaces (reverse l.text)

abbrev pub decreases-loop-last : goal.decreases-loop-last
decreases-loop-last l = length l.left

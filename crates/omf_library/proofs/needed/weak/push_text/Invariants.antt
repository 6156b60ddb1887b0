use Rattle.std.proofs.Common.{◌≡◌, ◌++◌, length}
use Rattle.omf_library.specs.Needed.{weak_of}
use Rattle.omf_library.proofs.needed.weak.push_text.Given as goal

-- the indices so far, and those of the text that is left
abbrev pub invariant-loop-index : goal.invariant-loop-index
invariant-loop-index l = l.weak.items ++ weak_of l.rest ≡ l.fn.weak.items ++ weak_of l.fn.text

abbrev pub decreases-loop-index : goal.decreases-loop-index
decreases-loop-index l = length l.rest

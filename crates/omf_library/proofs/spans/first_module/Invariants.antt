use Rattle.std.proofs.Common.{◌≡◌, ◌++◌, List, ℕ, length}
use Rattle.omf_library.specs.Spans.{AreInner, joined}
use Rattle.omf_library.proofs.spans.first_module.Given as goal

-- the records so far do not end a module
abbrev pub invariant-loop-record : goal.invariant-loop-record
invariant-loop-record l = (before : List (List ℕ)) × AreInner before × (l.bytes ≡ joined before ++ l.rest)

abbrev pub decreases-loop-record : goal.decreases-loop-record
decreases-loop-record l = length l.rest

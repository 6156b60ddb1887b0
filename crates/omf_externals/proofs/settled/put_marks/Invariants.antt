use Rattle.std.proofs.Common.{◌≡◌, drop}
use Rattle.omf_externals.specs.Unresolved.{with_marks}
use Rattle.omf_externals.proofs.settled.put_marks.Given as goal

-- the marks so far, and the pairs that are left
abbrev pub invariant-loop-pair : goal.invariant-loop-pair
invariant-loop-pair l = with_marks (drop l.pair-index l.pairs) l.marks.items ≡ with_marks l.pairs l.fn.marks.items

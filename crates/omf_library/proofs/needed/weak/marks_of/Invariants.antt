use Rattle.std.proofs.Common.{◌≡◌, ◌+◌, length, take}
use Rattle.omf_library.specs.Inner.Weak.{AreMarks}
use Rattle.omf_library.proofs.needed.weak.marks_of.Given as goal

-- the indices so far are marked
abbrev pub invariant-loop-index : goal.invariant-loop-index
invariant-loop-index l = record {
  sized : length l.marks.items ≡ l.count + 1;
  so_far : AreMarks (take l.index-index l.indices) l.count l.marks.items;
}

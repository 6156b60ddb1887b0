use Rattle.std.proofs.Common.{◌≡◌, ◌+◌, ◌*◌, ◌≤◌, ◌++◌, length}
use Rattle.omf_output.specs.Exe.Loading.{table}
use Rattle.omf_find.proofs.mz.table.Given as goal

-- the words so far and those that are left are all
abbrev pub invariant-loop-left : goal.invariant-loop-left
invariant-loop-left l = (l.words.items ++ table l.file l.left l.next ≡ table l.file l.count l.at) × (l.next + 4 * l.left ≤ length l.file)

abbrev pub decreases-loop-left : goal.decreases-loop-left
decreases-loop-left l = l.left

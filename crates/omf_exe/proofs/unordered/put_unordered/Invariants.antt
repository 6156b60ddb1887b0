use Rattle.std.proofs.Common.{◌++◌, length}
use Rattle.omf_exe.specs.Joined.{without_order}
use Rattle.omf_exe.proofs.UnorderedLaws.{AreWritten}
use Rattle.omf_exe.proofs.unordered.put_unordered.Given as goal

-- what is written so far, with what is kept of the records that are left, is all
abbrev pub invariant-records : goal.invariant-records
invariant-records l = AreWritten (l.fn.out.items ++ without_order l.«module».bytes) l.left l.out.items

abbrev pub decreases-records : goal.decreases-records
decreases-records l = length l.left

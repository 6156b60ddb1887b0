use Rattle.std.proofs.Common.{◌≡◌, length}
use Rattle.omf_check.specs.Module.{recs_of}
use Rattle.omf_linking.specs.Folded.{folded}
use Rattle.omf_linking.proofs.FoldLaws.{AreReadable}
use Rattle.omf_linking.proofs.folding.comparing.is_folded.Given as goal

-- what is left of both are records, and the modules fold if these do
abbrev pub invariant-records : goal.invariant-records
invariant-records l = record {
  left : AreReadable l.left;
  right : AreReadable l.right;
  so_far : recs_of l.right ≡ folded (recs_of l.left) → recs_of l.lower.bytes ≡ folded (recs_of l.«module».bytes);
}

abbrev pub decreases-records : goal.decreases-records
decreases-records l = length l.left

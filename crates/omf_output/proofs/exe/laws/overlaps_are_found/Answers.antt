use Rattle.omf_output.proofs.OverlapLaws.{overlaps-found}
use Rattle.omf_output.proofs.exe.laws.overlaps_are_found.Goals as goal

pub returns : goal.returns
returns c = overlaps-found

use Rattle.omf_layout.proofs.FitLaws.{keep-alignments}
use Rattle.omf_layout.proofs.laws.layouts_keep_alignments.Goals as goal

pub returns : goal.returns
returns c = keep-alignments

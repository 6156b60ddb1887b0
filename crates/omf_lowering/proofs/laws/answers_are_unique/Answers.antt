use Rattle.omf_lowering.proofs.RunLaws.{lowered_once, never_both, refused_once}
use Rattle.omf_lowering.proofs.laws.answers_are_unique.Goals as goal

pub returns : goal.returns
returns c = record { lowered = lowered_once; refused = refused_once; both = never_both }

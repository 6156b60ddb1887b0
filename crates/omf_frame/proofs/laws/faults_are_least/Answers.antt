use Rattle.omf_frame.proofs.FaultLaws.{least_is_least, least_unique, kept_none, none_kept}
use Rattle.omf_frame.proofs.StepLaws.{least_none}
use Rattle.omf_frame.proofs.laws.faults_are_least.Goals as goal

pub returns : goal.returns
returns c = record {
  least = least_is_least;
  none = least_none;
  only = least_unique;
  kept = kept_none;
  broken = none_kept;
}

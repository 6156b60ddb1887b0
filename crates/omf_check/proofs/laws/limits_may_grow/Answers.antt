use Rattle.omf_check.proofs.LimitLaws.{module_grows}
use Rattle.omf_check.proofs.laws.limits_may_grow.Goals as goal

pub returns : goal.returns
returns c = λ profile small large bytes records deeper longer. module_grows profile small large deeper longer bytes records

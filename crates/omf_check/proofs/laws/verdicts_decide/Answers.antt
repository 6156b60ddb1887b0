use Rattle.omf_check.proofs.VerdictLaws.{verdict_accepts, verdict_refuses}
use Rattle.omf_check.proofs.laws.verdicts_decide.Goals as goal

pub returns : goal.returns
returns c = λ profile limits input small. (verdict_accepts profile limits input small, verdict_refuses profile limits input small)

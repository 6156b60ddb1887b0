use Rattle.omf_placement.proofs.LineLaws.{return_goes, other_stays}
use Rattle.omf_placement.proofs.entry.without_return.Goals as goal

pub returns-in-Some : goal.returns-in-Some
returns-in-Some c = return_goes _ _ _ c.in-Some.ensures.cases.0 c.if-last-eq13.true

pub returns-in_default : goal.returns-in_default
returns-in_default c = other_stays _ _ _ c.in-Some.ensures.cases.0 c.if-last-eq13.false

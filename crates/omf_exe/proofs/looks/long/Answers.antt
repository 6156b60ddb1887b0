use Rattle.omf_exe.specs.Program.{IsLongOf}
use Rattle.omf_exe.proofs.RefusingLaws.{look-refused, look-shown}
use Rattle.omf_exe.proofs.looks.long.Goals as goal

pub returns-in-Some-clause-looked : goal.returns-in-Some-clause-looked
returns-in-Some-clause-looked c = look-shown (IsLongOf c.args.laid.now) c.in-Some.far c.in-Some.ensures c.args.is_allowed c.told.result c.told.ensures.some c.told.ensures.allowed

pub returns-in-Some-clause-refused : goal.returns-in-Some-clause-refused
returns-in-Some-clause-refused c = look-refused (IsLongOf c.args.laid.now) c.in-Some.far c.in-Some.ensures c.args.is_allowed c.told.result c.told.ensures.refused

use Rattle.std.proofs.Common.{subst}
use Rattle.std.specs.Prelude.{Some}
use Rattle.omf_exe.specs.Program.{IsMixedOf}
use Rattle.omf_exe.proofs.RefusingLaws.{look-refused, look-shown}
use Rattle.omf_exe.proofs.looks.mixed.Goals as goal

pub returns-in-Some-clause-looked : goal.returns-in-Some-clause-looked
returns-in-Some-clause-looked c =
    let ms = c.args.program.modules.now in
    let found : IsMixedOf ms (Some c.in-Some.parts) = subst (IsMixedOf ms) c.in-Some.is c.in-Ok.ensures in
    look-shown (IsMixedOf ms) c.in-Some.parts found c.args.is_allowed c.told.result c.told.ensures.some c.told.ensures.allowed

pub returns-in-Some-clause-refused : goal.returns-in-Some-clause-refused
returns-in-Some-clause-refused c =
    let ms = c.args.program.modules.now in
    let found : IsMixedOf ms (Some c.in-Some.parts) = subst (IsMixedOf ms) c.in-Some.is c.in-Ok.ensures in
    look-refused (IsMixedOf ms) c.in-Some.parts found c.args.is_allowed c.told.result c.told.ensures.refused

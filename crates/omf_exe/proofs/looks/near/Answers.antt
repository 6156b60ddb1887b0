use Rattle.omf_exe.specs.Program.{IsNearOf}
use Rattle.omf_exe.proofs.RefusingLaws.{look-refused, look-shown}
use Rattle.omf_exe.proofs.looks.near.Goals as goal

pub returns-in-Ok-Some-clause-looked : goal.returns-in-Ok-Some-clause-looked
returns-in-Ok-Some-clause-looked c =
    look-shown (IsNearOf c.args.settled.now) c.in-Ok-Some.stray (rw c.in-Ok-Some.field-0-is at c.in-Ok-Some.ensures) c.args.is_allowed c.told.result c.told.ensures.some c.told.ensures.allowed

pub returns-in-Ok-Some-clause-refused : goal.returns-in-Ok-Some-clause-refused
returns-in-Ok-Some-clause-refused c =
    look-refused (IsNearOf c.args.settled.now) c.in-Ok-Some.stray (rw c.in-Ok-Some.field-0-is at c.in-Ok-Some.ensures) c.args.is_allowed c.told.result c.told.ensures.refused

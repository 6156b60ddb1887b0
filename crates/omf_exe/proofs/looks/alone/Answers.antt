use Rattle.std.proofs.Common.{◌≡◌, refl, rules}
use Rattle.omf_exe.specs.declared.options.ProgramKind.TheVariants.{Exe}
use Rattle.omf_exe.proofs.looks.alone.Goals as goal

pub returns-in-Ok-Some-clause-refused : goal.returns-in-Ok-Some-clause-refused
returns-in-Ok-Some-clause-refused c =
    let exe : c.args.kind ≡ Exe = search rules in
    λ _. (exe, (refl, (c.in-Ok-Some.part, rw c.in-Ok-Some.field-0-is at c.in-Ok-Some.ensures)))

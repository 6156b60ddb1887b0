use Rattle.std.proofs.Common.{inr, refl, subst}
use Rattle.omf_c.specs.Programs.{IsAnsweredOf}
use Rattle.omf_c.proofs.programs.omf_exe.Goals as goal

pub returns-in-Ok : goal.returns-in-Ok
returns-in-Ok c =
    let asked = c.options_of-asked in
    (asked.result, asked.ensures, subst (λ fs. IsAnsweredOf fs asked.result c.answered.result (c.args.out.now, c.args.lines.now) (c.answered.new.out, c.answered.new.told)) c.in-Ok.ensures c.answered.ensures)

pub returns : goal.returns
returns c = (c.options_of-asked.result, c.options_of-asked.ensures, inr (inr (refl, refl, refl)))

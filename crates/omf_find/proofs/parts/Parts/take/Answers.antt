use Rattle.std.proofs.Common.{◌∙◌, Bor, ap, refl}
use Rattle.std.specs.Prelude.{Some, None, option_map}
use Rattle.omf_finding.specs.declared.findings.Verdict.{Verdict}
use Rattle.omf_finding.specs.declared.findings.Verdict.TheVariants as verdict
use Rattle.omf_find.proofs.PartLaws.{nothing_of}
use Rattle.omf_find.proofs.parts.Parts.take.Goals as goal

pub returns-in-Some-Possible : goal.returns-in-Some-Possible
returns-in-Some-Possible c =
    let seen = λ (v : Bor Verdict). v.now in
    let told = rw c.in-Some-Possible.is at c.in-Some-Possible.field-0-is in
    nothing_of c.args.program.now c.args.number c.args.«module».now (option_map seen c.args.verdict) (Some (verdict.Possible c.in-Some-Possible.field-0-0)) c.args.self.now
    (ap (option_map seen) c.in-Some-Possible.is ∙ ap Some told) (refl, refl)

pub returns-in-Some-NotThere : goal.returns-in-Some-NotThere
returns-in-Some-NotThere c =
    let seen = λ (v : Bor Verdict). v.now in
    let told = rw c.in-Some-NotThere.is at c.in-Some-NotThere.field-0-is in
    nothing_of c.args.program.now c.args.number c.args.«module».now (option_map seen c.args.verdict) (Some verdict.NotThere) c.args.self.now
    (ap (option_map seen) c.in-Some-NotThere.is ∙ ap Some told) (refl, refl)

pub returns-in-None : goal.returns-in-None
returns-in-None c =
    let seen = λ (v : Bor Verdict). v.now in
    nothing_of c.args.program.now c.args.number c.args.«module».now (option_map seen c.args.verdict) None c.args.self.now (ap (option_map seen) c.in-None.is) (refl, refl)

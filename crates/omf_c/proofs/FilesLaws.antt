-- Programs of files, and why there is none.
use Rattle.std.proofs.Common.{◌≡◌, ℕ, List, [], arith, refl, subst, inl, inr}
use Rattle.std.specs.Prelude.{◌⊎◌}
use Rattle.omf_linking.specs.File.{InputFile}
use Rattle.omf_exe.specs.Making.{GiveNone, IsMade, IsNotMade, ProgramFiles}
use Rattle.omf_exe.specs.Refusing.{IsRefusalFor}
use Rattle.omf_exe.specs.declared.made.MadeProgram.{MadeProgram}
use Rattle.omf_exe.specs.declared.options.ExeOptions.{ExeOptions}
use Rattle.omf_exe.specs.declared.refusal.Refusal.{Refusal}
use Rattle.omf_c.specs.Answers.{done}
use Rattle.omf_c.specs.Programs.{AreNotWritten, HandsProgram, HaveNoProgram, IsAnsweredOf, IsProgramOfFiles, ShowsRefusal, warnings}
use Rattle.omf_c.specs.declared.answer.Answer.{Answer}

-- what is made of the files is their program
pub program_of : (files : List InputFile) (o : ExeOptions) (p : ProgramFiles) (m : MadeProgram) → p.files ≡ files → p.ignores_case ≡ o.ignore_case → IsMade o p m → IsProgramOfFiles files o m
program_of files o p m e c h = record { program = p; of = e; case = c; made = h }

-- a refusal is for files without modules, or without a program
pub give_none : (files : List InputFile) (o : ExeOptions) (r : Refusal) → IsRefusalFor (GiveNone o.ignore_case files) r → IsRefusalFor (HaveNoProgram files o) r
give_none files o r h n = inl (h n)

pub not_written : (files : List InputFile) (o : ExeOptions) (p : ProgramFiles) (r : Refusal) → p.files ≡ files → p.ignores_case ≡ o.ignore_case → IsRefusalFor (IsNotMade o p) r → IsRefusalFor (HaveNoProgram files o) r
not_written files o p r e c h n = inr (record { program = p; of = e; case = c; why = h n })

-- the results for them
pub written_answered : (files : List InputFile) (o : ExeOptions) (m : MadeProgram) (answer : Answer) (old new : List ℕ × List ℕ) → IsProgramOfFiles files o m
    → (HandsProgram m (warnings m) answer old new ⊎ ((answer ≡ record done { status = 1 }) × (new.0 ≡ old.0) × (new.1 ≡ old.1))) → IsAnsweredOf files o answer old new
written_answered files o m answer old new p (inl h) = inl (m, p, h)
written_answered files o m answer old new p (inr h) = inr (inr h)

pub refused_answered : (files : List InputFile) (o : ExeOptions) (r : Refusal) (answer : Answer) (old new : List ℕ × List ℕ) → IsRefusalFor (HaveNoProgram files o) r
    → ShowsRefusal r answer old.1 new.1 → new.0 ≡ old.0 → IsAnsweredOf files o answer old new
refused_answered files o r answer old new why (inl h) same = inr (inl (r, why h.0, h.1, same))
refused_answered files o r answer old new why (inr h) same = inr (inr (h.0, same, h.1))

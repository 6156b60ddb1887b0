use Rattle.std.proofs.Common.{◌≡◌, ℕ, List}
use Rattle.std.specs.Prelude.{◌⊎◌}
use Rattle.omf_linking.specs.File.{InputFile}
use Rattle.omf_exe.specs.declared.made.MadeProgram.{MadeProgram}
use Rattle.omf_exe.specs.declared.options.ExeOptions.{ExeOptions}
use Rattle.omf_c.specs.Answers.{done}
use Rattle.omf_c.specs.Programs.{HandsProgram, IsAnsweredOf, IsProgramOfFiles, warnings}
use Rattle.omf_c.specs.declared.answer.Answer.{Answer}
use Rattle.omf_c.proofs.FilesLaws.{written_answered}
use Rattle.omf_c.proofs.programs.answered.Goals as goal

-- the same by the four buffers
by_buffers : (files : List InputFile) (o : ExeOptions) (m : MadeProgram) (answer : Answer) (out lines out' lines' : List ℕ) → IsProgramOfFiles files o m
    → (HandsProgram m (warnings m) answer (out, lines) (out', lines') ⊎ ((answer ≡ record done { status = 1 }) × (out' ≡ out) × (lines' ≡ lines))) → IsAnsweredOf files o answer (out, lines) (out', lines')
by_buffers files o m answer out lines out' lines' p h = written_answered files o m answer (out, lines) (out', lines') p h

pub returns-in-Ok : goal.returns-in-Ok
returns-in-Ok c = by_buffers _ _ _ _ _ _ _ _ c.in-Ok.ensures.made c.written.ensures

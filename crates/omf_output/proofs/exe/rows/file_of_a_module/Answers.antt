use Rattle.omf_output.proofs.RowLaws.{is-program}
use Rattle.omf_output.proofs.exe.rows.file_of_a_module.Goals as goal

pub returns-clause-fit : goal.returns-clause-fit
returns-clause-fit c = is-program

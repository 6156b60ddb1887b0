use Rattle.omf_linking.proofs.FilesLaws.{file_fails}
use Rattle.omf_linking.proofs.files.file_modules.Goals as goal

pub returns-in-Ok : goal.returns-in-Ok
returns-in-Ok c = c.alone.ensures c.args.profile c.in-Ok.ensures.modules

pub returns-in-Err : goal.returns-in-Err
returns-in-Err c = file_fails c.args.profile c.args.bytes.now c.in-Err.fault c.in-Err.ensures.modules

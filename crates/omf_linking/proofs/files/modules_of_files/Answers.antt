use Rattle.std.proofs.Common.{List, Ok, subst, ℕ}
use Rattle.omf_linking.specs.Files.{IsFile}
use Rattle.omf_linking.proofs.FilesLaws.{file_added}
use Rattle.omf_linking.proofs.files.modules_of_files.Goals as goal

pub loop-file-preserved : goal.loop-file-preserved
loop-file-preserved c =
    let g = c.in-Ok.ensures in
    let held = subst (λ (bs : List ℕ). IsFile c.args.profile bs (Ok g.0)) c.bytes.ensures g.1 in
    record {
      have = file_added c.args.profile c.args.files.now c.loop-file.file c.index-files-file.result c.loop-file.modules.items g.0 c.gather.new.modules.items c.loop-file-test.true c.index-files-file.is c.loop-file.invariant.have held g.2;
      few = g.3;
    }

use Rattle.omf_linking.proofs.FilesLaws.{gathered}
use Rattle.omf_linking.proofs.files.gather.Goals as goal

pub returns-in-Ok : goal.returns-in-Ok
returns-in-Ok c = gathered c.args.profile c.args.bytes.now c.args.modules.now.items c.in-Ok.own.items c.add.new.modules.items c.add.result c.in-Ok.ensures c.add.ensures.moved c.add.ensures.few c.add.ensures.cause

use Rattle.omf_exe.proofs.ExeLaws.{program-of}
use Rattle.omf_exe.proofs.settling.SettledModules.exe.Goals as goal

pub returns-clause-program : goal.returns-clause-program
returns-clause-program c =
    let l = c.link_exe.ensures in
    program-of c.args.most c.args.self.now c.in_ok-members.members.items c.deref.result.now c.link_exe.result c.in_ok-members.ensures c.deref.ensures.value l.file l.loaded l.stack l.none

use Rattle.std.proofs.Common.{sym, arith}
use Rattle.omf_canon.proofs.DataLaws.{copied, copied-writes}
use Rattle.omf_canon.proofs.writing.Walk.copy.Goals as goal

pub returns-clause-put : goal.returns-clause-put
returns-clause-put c d e =
    let w = c.args.self.now in
    let n = c.write.new in
    copied-writes w.threads c.args.kind c.args.body.now d (copied w.threads c.args.kind c.args.body.now d (λ i. omega (arith, c.type_inv.body i)) c.requires.data c.requires.begins e)
    w.out.items n.out.items w.group n.group c.write.result c.write.ensures.out c.write.ensures.group

pub returns-clause-threads : goal.returns-clause-threads
returns-clause-threads c d e =
    let w = c.args.self.now in
    sym (copied w.threads c.args.kind c.args.body.now d (λ i. omega (arith, c.type_inv.body i)) c.requires.data c.requires.begins e).keeps

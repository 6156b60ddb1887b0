use Rattle.omf_explicit.proofs.ModuleLaws.{front_short, front_spelled}
use Rattle.omf_explicit.proofs.record.front_of.Goals as goal

pub returns-in-Some-clause-spelled : goal.returns-in-Some-clause-spelled
returns-in-Some-clause-spelled c =
    let e = c.in-Some.ensures in
    front_spelled c.args.bytes.now c.in-Some.record c.in-Some.after.now (λ i. (c.type_inv.bytes i).fits) e.whole e.kind e.body e.sum e.rest

pub returns-in-Some-clause-short : goal.returns-in-Some-clause-short
returns-in-Some-clause-short c = front_short c.args.bytes.now c.in-Some.record (λ i. (c.type_inv.bytes i).fits) c.in-Some.ensures.whole c.in-Some.ensures.body

use Rattle.std.proofs.Common.{Result, arith, sym, subst}
use Rattle.omf_frame.specs.Fault.{Fault}
use Rattle.omf_records.specs.Values.{Contents}
use Rattle.omf_records.specs.Layout.{Meets}
use Rattle.omf_records.specs.Inner.Meets.{whole_meets}
use Rattle.omf_records.specs.Records.{contents}
use Rattle.omf_records.specs.Inner.RecordReaders.{contents_whole}
use Rattle.omf_records.proofs.dispatch.view_body.Goals as goal

pub returns-clause-meets : goal.returns-clause-meets
returns-clause-meets c =
    subst (λ (r : Result Contents Fault). Meets (contents c.args.kind) 3 c.args.body.now r) (sym c.contents_of.ensures.contents)
    (whole_meets (contents_whole c.args.kind) 3 c.args.body.now (λ i. omega (arith, c.type_inv.body i)))

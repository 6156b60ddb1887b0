use Rattle.omf_records.proofs.DirectFixupLaws.{gives-direct, others-valid}
use Rattle.omf_records.proofs.direct_fixup.Items+Subrecord.next_direct.Goals as goal

pub known-requires : goal.known-requires
known-requires c = others-valid _ c.place-here.result _ c.args.self.now c.place-here.ensures c.in-Some.ensures

pub returns-in-Some-clause-direct : goal.returns-in-Some-clause-direct
returns-in-Some-clause-direct c =
    gives-direct _ c.place-here.result _ c.args.self.now c.place-here.ensures c.in-Some.ensures c.known.result c.known.ensures c.offset.result c.offset.ensures

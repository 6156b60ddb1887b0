use Rattle.std.proofs.Common.{◌∙◌, sym}
use Rattle.omf_linking.specs.Space.Memory.{pieces, shares, overlap}
use Rattle.omf_linking.proofs.SpaceLaws.MemoryLaws.{known_next}
use Rattle.omf_linking.proofs.space.memory.owners_at.Goals as goal

pub loop-stretch-preserved : goal.loop-stretch-preserved
loop-stretch-preserved c =
    let ss = c.args.stretches.now in
    let a = c.args.address in
    known_next a c.loop-stretch.stretch-index ss _ c.loop-stretch-test.true c.loop-stretch.first c.or-first.result (overlap (shares (pieces ss) a)) c.has.result
    c.has.ensures c.if-not-has.false (sym c.excluded.ensures ∙ c.in_default.is) c.or-first.ensures c.loop-stretch.invariant

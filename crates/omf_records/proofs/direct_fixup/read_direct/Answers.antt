use Rattle.std.proofs.Common.{get_or, drop, refl}
use Rattle.omf_records.proofs.PassingLaws.{three}
use Rattle.omf_records.proofs.DirectFixupLaws.{reads}
use Rattle.omf_records.proofs.direct_fixup.read_direct.Goals as goal

pub returns-in-Some-own_displacement : goal.returns-in-Some-own_displacement
returns-in-Some-own_displacement c =
    let here = c.args.here in
    let b = c.bytes.result.now in
    reads here.wide here.within here.bytes.now (get_or b 0 0) (get_or b 1 0) (get_or b 2 0) (drop 3 here.bytes.now) (three here.bytes.now b c.bytes.ensures c.in-len3-up.len_at_least) _
    c.in-Some.ensures.high c.in-Some.ensures.location c.in-Some.ensures.number
    (c.if-not-is_own.ensures.methods refl) (c.if-not-is_own.ensures.frame refl) (c.if-not-is_own.ensures.target refl) c.known.ensures
    c.pass.result.wide c.pass.ensures.width c.pass.result.within c.pass.ensures.within c.pass.result.bytes.now c.pass.ensures.bytes
    c.in-Some-own_frame.frame.1 c.in-Some-own_frame.ensures c.in-Some-own_index.target.1 c.in-Some-own_index.ensures c.has_displacement.result c.has_displacement.ensures c.in-Some-own_displacement.displacement.1 c.in-Some-own_displacement.ensures

use Rattle.std.proofs.Common.{◌<◌, arith, length, refl}
use Rattle.omf_making.proofs.MadeLaws.{part_fault, whole_more}
use Rattle.std.proofs.lemmas.Option.{slice_get_read}
use Rattle.omf_making.proofs.making.fault_of_parts.Goals as goal

pub loop-number-preserved : goal.loop-number-preserved
loop-number-preserved c =
    let parts = c.args.parts.now in
    let part = c.index-parts-number.result in
    whole_more c.args.profile parts c.loop-number.number part c.loop-number.invariant (slice_get_read parts (length parts) c.loop-number.number part refl c.loop-number-test.true c.index-parts-number.is) c.in-None.ensures

pub returns-in-Some : goal.returns-in-Some
returns-in-Some c is_case_sensitive =
    let parts = c.args.parts.now in
    let part = c.index-parts-number.result in
    part_fault c.args.profile is_case_sensitive parts c.loop-number.number part c.in-Some.fault (slice_get_read parts (length parts) c.loop-number.number part refl c.loop-number-test.true c.index-parts-number.is) c.in-Some.ensures

pub returns : goal.returns
returns c is_case_sensitive number low part is =
    let all = c.loop-number-test.false in
    let inside : number < c.loop-number.number = omega (arith, low, all) in
    c.loop-number.invariant number inside part is

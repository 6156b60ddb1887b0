use Rattle.std.proofs.Common.{◌<◌, length, arith}
use Rattle.std.proofs.lemmas.List.{get_or_default}
use Rattle.omf_find.proofs.RoomLaws.{found_in}
use Rattle.omf_find.proofs.room.gap_for.Goals as goal

pub returns-in-Some : goal.returns-in-Some
returns-in-Some c =
    let gaps = c.args.gaps.now in
    let n = c.loop-gap.gap in
    let low : n < length gaps = omega (arith, c.loop-gap-test.true, c.requires) in
    found_in gaps n c.args.from c.args.size c.in-Some.address _ low (get_or_default gaps n _ _ low) c.in-Some.ensures

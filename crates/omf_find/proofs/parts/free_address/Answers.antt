use Rattle.std.proofs.Common.{◌≡◌, rules}
use Rattle.std.specs.Prelude.{Some}
use Rattle.omf_check.specs.Module.{recs_of}
use Rattle.omf_check.specs.Tables.{entry, segments}
use Rattle.omf_find.proofs.PartLaws.{room_for}
use Rattle.omf_find.proofs.parts.free_address.Goals as goal

pub returns-clause-room : goal.returns-clause-room
returns-clause-room c =
    let m = c.args.seen.«module».now in
    let f = c.args.seen.found.now in
    let there : entry f.placement.segments c.args.segment ≡ Some c.in_ok-place.place = search rules in
    let known : entry (segments (recs_of m.bytes)) c.args.segment ≡ Some c.in_ok-info.info = search rules in
    room_for m f c.args.room.now c.args.segment c.in_ok-place.place c.in_ok-info.info c.take.result there known c.take.ensures.room

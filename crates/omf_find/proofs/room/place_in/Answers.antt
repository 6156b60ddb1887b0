use Rattle.std.proofs.Common.{◌+◌, ◌^◌, ◌≤◌, arith}
use Rattle.omf_find.specs.Room.{IsPlaceIn}
use Rattle.omf_find.proofs.RoomLaws.{fits_or_none, place_in_gap}
use Rattle.omf_find.proofs.room.place_in.Goals as goal

pub returns : goal.returns
returns c =
    let g = c.args.gap in
    let size = c.args.size in
    let p = c.paragraph-first.result in
    let inside : p + size ≤ 2 ^ 32 = omega (arith, c.saturating_add.ensures, c.min.ensures, c.if-saturating_add-min.false) in
    let before : p + size ≤ g.end = omega (arith, c.saturating_add.ensures, c.min.ensures, c.if-saturating_add-min.false) in
    let at : IsPlaceIn g c.args.from size p =
    place_in_gap g c.args.from c.max.result p size (omega (arith, c.max.ensures)) (omega (arith, c.max.ensures, c.from.ensures)) c.paragraph-first.ensures inside before in
    fits_or_none c.try_from.result _ p c.ok.result (IsPlaceIn g c.args.from size) c.try_from.ensures c.ok.ensures.value at

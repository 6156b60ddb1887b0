use Rattle.std.proofs.Common.{◌+◌, ◌^◌, ◌≤◌, arith}
use Rattle.omf_find.specs.Room.{IsPlaceFor, IsRoom}
use Rattle.omf_find.proofs.RoomLaws.{fits_or_none, less_after, place_from, room_after}
use Rattle.omf_find.proofs.room.Room.take_after.Goals as goal

pub returns-clause-room : goal.returns-clause-room
returns-clause-room c =
    let r = c.args.self.now in
    let size = c.args.size in
    let p = c.paragraph-first.result in
    let inside : p + size ≤ 2 ^ 32 = omega (arith, c.saturating_add-end.ensures, c.if-end-gt-ADDRESSES.false) in
    let at : (r.next ≤ p) × IsPlaceFor c.args.from size p =
    place_from c.args.from r.next c.max.result p size (omega (arith, c.max.ensures)) (omega (arith, c.max.ensures, c.from.ensures)) c.paragraph-first.ensures inside in
    fits_or_none c.try_from.result _ p c.ok.result (IsRoom r c.args.from size) c.try_from.ensures c.ok.ensures.value (room_after r c.args.from size p at.0 at.1)

pub returns-clause-left : goal.returns-clause-left
returns-clause-left c =
    let r = c.args.self.now in
    let size = c.args.size in
    let p = c.paragraph-first.result in
    let inside : p + size ≤ 2 ^ 32 = omega (arith, c.saturating_add-end.ensures, c.if-end-gt-ADDRESSES.false) in
    let at : (r.next ≤ p) × IsPlaceFor c.args.from size p =
    place_from c.args.from r.next c.max.result p size (omega (arith, c.max.ensures)) (omega (arith, c.max.ensures, c.from.ensures)) c.paragraph-first.ensures inside in
    λ x f. less_after r.gaps.items r.next c.saturating_add-end.result x (omega (arith, at.0, c.saturating_add-end.ensures, c.if-end-gt-ADDRESSES.false)) f

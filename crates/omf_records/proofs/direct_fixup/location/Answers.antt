use Rattle.std.proofs.Common.{◌∙◌, arith}
use Rattle.omf_records.proofs.RoomLaws.{right-location}
use Rattle.omf_records.proofs.direct_fixup.location.Goals as goal

pub known-requires-clause-location : goal.known-requires-clause-location
known-requires-clause-location c =
    let right = right-location c.args.high c.args.low (omega arith) (omega arith) (λ e. c.if-room-eq0.false (c.room.ensures ∙ e)) in
    rw (c.from.ensures, c.from-2.ensures) right

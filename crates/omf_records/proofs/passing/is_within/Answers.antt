use Rattle.std.proofs.Common.{◌∙◌, arith}
use Rattle.std.proofs.lemmas.Bool.{leb-true}
use Rattle.omf_records.proofs.RoomLaws.{right-location, right-end}
use Rattle.omf_records.proofs.passing.is_within.Goals as goal

pub returns-clause-location : goal.returns-clause-location
returns-clause-location c h =
    right-location c.args.high c.args.low (omega arith) (omega arith) (λ e. c.if-room-eq0.false (c.room-room.ensures ∙ e))

pub returns-clause-within : goal.returns-clause-within
returns-clause-within c h =
    let fit = leb-true _ _ h in
    let size = c.room-room.ensures in
    right-end c.args.high c.args.low (omega arith) (omega arith) (λ e. c.if-room-eq0.false (c.room-room.ensures ∙ e)) c.args.len (omega (arith, fit, size))

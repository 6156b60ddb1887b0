use Rattle.omf_find.proofs.GapLaws.{free-around}
use Rattle.omf_find.specs.declared.room.Room.{Room}
use Rattle.omf_find.proofs.room.Room.around.Goals as goal

pub returns-clause-free : goal.returns-clause-free
returns-clause-free c =
    let r : Room = record { gaps = c.in_ok-gaps_of.field-0; next = c.next_after-next.result } in
    λ order. free-around c.args.rows.now r c.next_after-next.ensures.rows (c.in_ok-gaps_of.ensures order)

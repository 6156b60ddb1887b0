use Rattle.std.proofs.Common.{rules, ◌≡◌, ◌*◌}
use Rattle.omf_lowering.proofs.TurnLaws.{turn_more, turn_front, turn_within}
use Rattle.omf_lowering.proofs.copies.repeat.Goals as goal

pub loop-number-preserved : goal.loop-number-preserved
loop-number-preserved c =
    let i = c.loop-number.invariant in
    let size = c.args.turn.now.size in
    let far : c.in-Some.by ≡ size * c.loop-number.number = search rules in
    let items = c.loop-number.offsets.items in
    let more = c.in_ok-push_moved.ensures in
    record {
      is = turn_more size c.loop-number.number c.len-len.result c.in-Some.by c.args.offsets.now.items items c.push_moved.new.offsets.items i.is i.front i.within far more;
      front = turn_front size c.loop-number.number c.len-len.result c.in-Some.by c.args.offsets.now.items items c.push_moved.new.offsets.items i.is i.front i.within far more;
      within = turn_within size c.loop-number.number c.len-len.result c.in-Some.by c.args.offsets.now.items items c.push_moved.new.offsets.items i.is i.front i.within far more;
    }

use Rattle.std.proofs.Common.{length, ap, arith}
use Rattle.omf_dump.proofs.ListingLaws.{empty, front, last_turn, turn}
use Rattle.omf_dump.proofs.listing.show_members.Goals as goal

pub loop-rest-preserved : goal.loop-rest-preserved
loop-rest-preserved g c =
    let parts = front c.loop-rest.rest.now _ c.in-len1-up.len_at_least in
    let one = ap length parts in
    let counted = c.loop-rest.invariant.counted in
    record {
      left = turn _ _ c.loop-rest.number _ c.loop-rest.rest.now _ c.args.members.now c.loop-rest.is_refused _ _ _ _ _ parts c.loop-rest.invariant.left c.in_ok-is_faulty.ensures c.is_either-is_refused.ensures;
      counted = omega (arith, one, counted);
    }

pub returns : goal.returns
returns g c = last_turn _ _ c.loop-rest.number c.loop-rest.rest.now _ _ _ _ (empty c.loop-rest.rest.now c.in_default.len_below) c.loop-rest.invariant.left

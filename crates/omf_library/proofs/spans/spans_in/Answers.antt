use Rattle.std.proofs.Common.{refl}
use Rattle.omf_library.proofs.SpanLaws.{spans_grown}
use Rattle.omf_library.proofs.spans.spans_in.Goals as goal

pub loop-at-preserved : goal.loop-at-preserved
loop-at-preserved c =
    let p = c.in-Member.ensures in
    spans_grown c.args.bytes.now c.args.page c.args.page c.loop-at.members.items c.push.new.self.items c.loop-at.at c.next_page-at.result (record { offset = c.loop-at.at; bytes = c.in-Member.found })
    c.in_ok-push-in-Member.ensures.items c.next_page-at.ensures c.loop-at.invariant p.0 p.1 refl

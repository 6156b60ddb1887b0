use Rattle.omf_making.proofs.TakenLaws.{taken_grown}
use Rattle.omf_making.proofs.reread.taken_in.Goals as goal

pub loop-at-preserved : goal.loop-at-preserved
loop-at-preserved c =
    let i = c.loop-at.invariant in
    let m = c.in_ok-member.ensures in
    let page = c.in_ok-page.field-0.page in
    record {
      header = i.header;
      paged = i.paged;
      filled = i.filled;
      low = i.low;
      members_are = taken_grown c.args.profile c.args.bytes.now page page c.loop-at.members.items c.push.new.self.items c.loop-at.at c.next_page-at.result c.in_ok-member.member
          c.in_ok-push.ensures.items c.next_page-at.ensures i.members_are m.0 m.1;
    }

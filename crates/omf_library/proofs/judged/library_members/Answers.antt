use Rattle.std.proofs.Common.{◌≡◌}
use Rattle.omf_library.proofs.JudgedLaws.{read_more}
use Rattle.omf_library.proofs.judged.library_members.Goals as goal

pub loop-at-preserved : goal.loop-at-preserved
loop-at-preserved c =
    let i = c.loop-at.invariant in
    let j = c.in_ok-judged.judged in
    record {
      paged = i.paged;
      filled = i.filled;
      low = i.low;
      read = read_more c.args.profile c.args.bytes.now c.in_ok-page.field-0.page c.loop-at.at c.next_page-at.result c.loop-at.members.items c.push.new.self.items j.member j.length
          i.paged c.in_ok-push.ensures.items c.next_page-at.ensures i.read c.in_ok-judged.ensures.0;
    }

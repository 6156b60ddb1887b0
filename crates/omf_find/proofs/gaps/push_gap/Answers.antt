use Rattle.std.proofs.Common.{arith}
use Rattle.omf_find.proofs.GapLaws.{gap-added, gap-none}
use Rattle.omf_find.proofs.gaps.push_gap.Goals as goal

pub returns-in_ok-push : goal.returns-in_ok-push
returns-in_ok-push c = gap-added c.args.gaps.now.items c.push.new.self.items (record { first = c.args.first; end = c.args.end }) c.in_ok-push.ensures.items

pub returns-else-first-end : goal.returns-else-first-end
returns-else-first-end c = gap-none c.args.gaps.now.items c.args.first c.args.end (omega (arith, c.if-first-end.false))

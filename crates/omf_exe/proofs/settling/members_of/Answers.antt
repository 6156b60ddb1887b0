use Rattle.omf_exe.proofs.ExeLaws.{next-member, no-member, one-more}
use Rattle.omf_exe.proofs.settling.members_of.Goals as goal

pub loop-j-preserved : goal.loop-j-preserved
loop-j-preserved c =
    one-more c.loop-j.members.items c.push.new.self.items _ _ _ _ c.in_ok-push.ensures.items
    (next-member c.args.modules.now c.args.placements.now c.args.movers.now c.loop-j.j c.index-modules-j.result c.index-placements-j.result c.index-movers-j.result c.index-modules-j.is c.index-placements-j.is c.index-movers-j.is
    c.loop-j-test.true c.requires.placed c.requires.moved)
    c.loop-j.invariant

pub returns : goal.returns
returns c = no-member c.args.modules.now c.args.placements.now c.args.movers.now c.loop-j.j c.loop-j.members.items _ c.loop-j-test.false c.loop-j.invariant

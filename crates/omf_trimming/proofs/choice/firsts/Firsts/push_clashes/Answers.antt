use Rattle.omf_trimming.specs.Clashes.{clash_after}
use Rattle.omf_trimming.proofs.ChoiceLaws.{flat-more}
use Rattle.omf_trimming.proofs.choice.firsts.Firsts.push_clashes.Goals as goal

pub loop-marked-preserved : goal.loop-marked-preserved
loop-marked-preserved c = λ before h.
    flat-more (clash_after c.args.number before) c.args.own.now c.loop-marked.marked-index c.marked-item.result c.loop-marked.found.items c.push_clash.new.found.items _ c.marked-item.is c.loop-marked-test.true
    (c.in_ok-push_clash.ensures before h) (c.loop-marked.invariant before h)

use Rattle.omf_trimming.specs.Inner.Choosing.{segment_if}
use Rattle.omf_trimming.proofs.ChoiceLaws.{flat-more}
use Rattle.omf_trimming.proofs.choice.firsts.Firsts.left_out.Goals as goal

pub loop-marked-preserved : goal.loop-marked-preserved
loop-marked-preserved c = λ before h.
    flat-more (segment_if before) c.args.found.now c.loop-marked.marked-index c.marked-item.result c.loop-marked.gone.items c.push_left_out.new.gone.items _ c.marked-item.is c.loop-marked-test.true
    (c.in_ok-push_left_out.ensures before h) (c.loop-marked.invariant before h)

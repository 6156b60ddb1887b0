use Rattle.std.proofs.Common.{◌∙◌, ap}
use Rattle.omf_check.specs.Inner.Kept.{set_thread}
use Rattle.omf_check.proofs.Found.{threads_more}
use Rattle.omf_check.proofs.threads.Threads.set_all.Goals as goal

pub loop-subrecord-preserved : goal.loop-subrecord-preserved
loop-subrecord-preserved c =
    let cells = c.loop-subrecord.self in
    threads_more cells c.set.new.self _ c.in-Some.subrecord c.loop-subrecord.subrecord-iterator c.next.new.self
    (c.set.ensures ∙ ap (λ s. set_thread cells s.item) c.subrecord.view_is) c.in-Some.ensures.steps c.loop-subrecord.invariant

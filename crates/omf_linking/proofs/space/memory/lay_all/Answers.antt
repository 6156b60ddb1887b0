use Rattle.std.proofs.Common.{rules}
use Rattle.omf_linking.proofs.SpaceLaws.MemoryLaws.{laid_next, all_laid}
use Rattle.omf_linking.proofs.space.memory.lay_all.Goals as goal

pub loop-stretch-preserved : goal.loop-stretch-preserved
loop-stretch-preserved c =
    let ss = c.args.stretches.now in
    let i = c.loop-stretch.stretch-index in
    laid_next i ss _ c.args.image.now c.loop-stretch.image c.lay.new.self c.in_ok-to_vec.field-0.items c.loop-stretch-test.true (search rules) c.in_ok-lay.ensures.laid c.loop-stretch.invariant

pub returns : goal.returns
returns c = all_laid c.loop-stretch.stretch-index c.args.stretches.now c.args.image.now c.loop-stretch.image c.loop-stretch-test.false c.loop-stretch.invariant

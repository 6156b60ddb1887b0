use Rattle.std.proofs.Common.{◌∙◌, ap, sym}
use Rattle.omf_lowering.specs.Inner.Rolling.{blocks_seen}
use Rattle.omf_lowering.specs.Unrolled.{after_subrecords}
use Rattle.omf_lowering.proofs.RollLaws.{subrecord_more}
use Rattle.omf_lowering.proofs.unrolling.Unrolling.take_all.Goals as goal

pub loop-next-preserved : goal.loop-next-preserved
loop-next-preserved c =
    let d = blocks_seen c.args.«data».now in
    sym (subrecord_more c.args.kind d c.loop-next.self c.take_subrecord.new.self c.in-Some.next c.next.new.self c.in_ok-take_subrecord.ensures)
    ∙ ap (after_subrecords c.args.kind d c.loop-next.self) (sym c.in-Some.ensures.steps) ∙ c.loop-next.invariant

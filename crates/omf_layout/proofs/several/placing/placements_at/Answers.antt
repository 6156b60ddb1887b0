use Rattle.std.proofs.Common.{◌∙◌, ap, length}
use Rattle.omf_layout.proofs.SeveralLaws.LowLaws.{as-many}
use Rattle.omf_layout.proofs.several.placing.placements_at.Goals as goal

pub of-requires : goal.of-requires
of-requires c = ap length c.deref.ensures.value ∙ as-many c.args.lying.now 0 c.args.modules.now c.in_ok-segments.segments.items c.in_ok-segments.ensures

pub placements_of-requires : goal.placements_of-requires
placements_of-requires c = as-many c.args.lying.now 0 c.args.modules.now c.in_ok-segments.segments.items c.in_ok-segments.ensures

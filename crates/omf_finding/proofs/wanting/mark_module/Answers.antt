use Rattle.std.proofs.Common.{sym, subst}
use Rattle.std.specs.Prelude.{All}
use Rattle.omf_finding.specs.Inner.Shaping.{IsWhole}
use Rattle.omf_finding.specs.Inner.Walking.{byte_in}
use Rattle.omf_finding.proofs.ShapeLaws.{intervals-whole}
use Rattle.omf_finding.proofs.wanting.mark_module.Goals as goal

pub rarest_of-requires : goal.rarest_of-requires
rarest_of-requires c = subst (All IsWhole) (sym c.deref.ensures.value) (intervals-whole (byte_in c.in_ok-pattern.pattern c.loop-segment.segment) c.in_ok-intervals.intervals.items c.in_ok-intervals.ensures)

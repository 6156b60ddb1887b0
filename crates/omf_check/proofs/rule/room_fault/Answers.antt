use Rattle.std.proofs.Common.{◌∙◌, ap}
use Rattle.std.specs.Prelude.{nat_lt}
use Rattle.omf_frame.specs.declared.fault.Reason.TheVariants.{TooMany}
use Rattle.omf_check.specs.Inner.Judging.{fault_unless}
use Rattle.omf_check.specs.Rules.{places}
use Rattle.omf_check.proofs.Lesser.{room_more}
use Rattle.omf_check.proofs.rule.room_fault.Goals as goal

pub loop-item-preserved : goal.loop-item-preserved
loop-item-preserved g c =
    room_more c.loop-item.found c.fault_unless.result c.lesser-found.result _ c.loop-item.left c.saturating_sub-left.result c.in-Some.item.within
    (places c.loop-item.item-iterator) (places c.next.new.self) c.lesser-found.ensures
    (c.fault_unless.ensures ∙ ap (λ w. fault_unless (nat_lt 0 c.loop-item.left) w TooMany) (ap (λ a. a.within) c.item.view_is))
    c.saturating_sub-left.ensures (ap places c.in-Some.ensures.steps) c.loop-item.invariant

use Rattle.std.proofs.Common.{◌++◌, ◌∙◌, ap}
use Rattle.omf_layout.specs.Own.Order.{data_slots}
use Rattle.omf_layout.proofs.OrderModule.{all-parts}
use Rattle.omf_layout.proofs.own.slots.in_dos_order.Goals as goal

pub returns-clause-all : goal.returns-clause-all
returns-clause-all c =
    all-parts _ _ _ _ _ _ _ _ _ _ (c.in_ok-add_data.ensures ∙ ap (λ xs. xs ++ data_slots c.args.slots.now) c.new-ordered.ensures.items)
    c.in_ok-add_marker.ensures c.in_ok-add_part.ensures c.in_ok-add_marker-2.ensures c.in_ok-add_part-2.ensures

use Rattle.std.proofs.Common.{◌+◌, ◌*◌}
use Rattle.omf_layout.specs.Own.Order.{slot_names}
use Rattle.omf_layout.specs.Own.Written.{segment_record}
use Rattle.omf_layout.proofs.OrderModule.{then-record}
use Rattle.omf_layout.proofs.own.order.put_slot.Goals as goal

pub returns : goal.returns
returns c =
    then-record _ _ _ (slot_names c.args.slot.now) (segment_record c.args.slot.now.attribute 0 (2 * c.args.before + 2) (2 * c.args.before + 1)) c.in_ok-put_slot_names.ensures c.in_ok-put_segment.ensures

use Rattle.std.proofs.Common.{◌+◌, ◌*◌}
use Rattle.std.specs.Prelude.{codes}
use Rattle.omf_layout.specs.Own.Written.{empty_group_record, name_record}
use Rattle.omf_layout.proofs.OrderModule.{two-records}
use Rattle.omf_layout.proofs.own.order.put_dgroup.Goals as goal

pub returns : goal.returns
returns c = two-records _ _ _ (name_record (codes "DGROUP")) (empty_group_record (2 * c.args.count + 1)) c.in_ok-put_name.ensures c.in_ok-put_empty_group.ensures

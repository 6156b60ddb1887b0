use Rattle.omf_layout.proofs.CommunalRecords.{front-put}
use Rattle.omf_layout.proofs.own.communals.put_front.Goals as goal

pub returns : goal.returns
returns c = front-put c.put_names.result c.args.home.now _ _ _ c.args.out.now.items _ _ c.near_class.ensures c.near_name.ensures c.home_group.ensures c.in_ok-put_header.ensures c.put_names.ensures

use Rattle.omf_lib.proofs.KeyLaws.{one_key_more}
use Rattle.omf_lib.proofs.defining.add.Goals as goal

pub returns : goal.returns
returns c done h = one_key_more c.args.keys.now c.insert.new.self c.args.key done c.in_ok-insert.ensures.updates h

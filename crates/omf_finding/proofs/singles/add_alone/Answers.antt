use Rattle.std.proofs.Common.{refl}
use Rattle.omf_finding.proofs.SingleLaws.{added-one}
use Rattle.omf_finding.proofs.singles.add_alone.Goals as goal

pub returns-in_ok-insert : goal.returns-in_ok-insert
returns-in_ok-insert c = added-one c.args.alone.now c.insert.new.self c.in-Some.last.single c.args.last c.in-Some.last c.in-Some.is refl c.in_ok-insert.ensures.keys

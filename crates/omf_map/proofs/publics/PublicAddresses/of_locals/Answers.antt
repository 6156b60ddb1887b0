use Rattle.omf_map.proofs.PublicLaws.{fill-empty}
use Rattle.omf_map.proofs.publics.PublicAddresses.of_locals.Goals as goal

pub returns : goal.returns
returns c = fill-empty c.new.result c.add_module.new.self.by_name _ c.new.ensures.empty c.in_ok-add_module.ensures

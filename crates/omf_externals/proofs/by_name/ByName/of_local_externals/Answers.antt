use Rattle.omf_externals.proofs.UnresolvedLaws.{fill-empty}
use Rattle.omf_externals.proofs.by_name.ByName.of_local_externals.Goals as goal

pub returns : goal.returns
returns c = fill-empty c.new.result c.add_externals.new.self.spots _ c.new.ensures.empty c.in_ok-add_externals.ensures

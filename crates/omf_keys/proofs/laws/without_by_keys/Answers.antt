use Rattle.omf_keys.proofs.WithoutLaws.{without-key}
use Rattle.omf_keys.proofs.laws.without_by_keys.Goals as goal

pub returns : goal.returns
returns c = without-key c.rests_are_well_formed.ensures c.rests_are_typed.ensures c.canonicals_decide.ensures c.skeletons_are_unique.ensures c.fixups_stand_alone.ensures c.skeletons_are_joined.ensures c.pieces_by_keys.ensures

use Rattle.omf_placement.proofs.DerivedLaws.{derived-is-taken}
use Rattle.omf_placement.proofs.several.laws.derived_is_taken.Goals as goal

pub returns : goal.returns
returns c = derived-is-taken

use Rattle.omf_linking.proofs.ItemLaws.{drafted-told}
use Rattle.omf_linking.proofs.locator.laws.drafted_entries_give_places.Goals as goal

pub returns : goal.returns
returns c = drafted-told

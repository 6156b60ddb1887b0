use Rattle.omf_linking.proofs.KeyNames.{keys-written}
use Rattle.omf_linking.proofs.locator.laws.keys_are_printed.Goals as goal

pub returns : goal.returns
returns c = keys-written

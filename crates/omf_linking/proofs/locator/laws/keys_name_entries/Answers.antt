use Rattle.omf_linking.proofs.KeyNames.{keys-name}
use Rattle.omf_linking.proofs.locator.laws.keys_name_entries.Goals as goal

pub returns : goal.returns
returns c = keys-name

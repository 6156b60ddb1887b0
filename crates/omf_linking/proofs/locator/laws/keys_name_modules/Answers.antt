use Rattle.omf_linking.proofs.KeyNames.{keys-name-module}
use Rattle.omf_linking.proofs.locator.laws.keys_name_modules.Goals as goal

pub returns : goal.returns
returns c = keys-name-module

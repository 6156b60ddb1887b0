use Rattle.std.proofs.Common.{◌∙◌, rules}
use Rattle.omf_linking.proofs.KeyLaws.{kept-repeated}
use Rattle.omf_linking.proofs.locator.forms.TextTable.is_repeated.Goals as goal

pub returns : goal.returns
returns c = λ texts h. search rules ∙ kept-repeated c.args.self.now.repeated c.args.text.now texts h

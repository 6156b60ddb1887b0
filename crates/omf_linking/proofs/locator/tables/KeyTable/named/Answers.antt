use Rattle.std.proofs.Common.{◌∙◌, ap, sym}
use Rattle.std.specs.Prelude.{Some, filter}
use Rattle.omf_linking.specs.Inner.KeyTables.{is_text}
use Rattle.omf_linking.proofs.KeyTableLaws.{answer_of, answered}
use Rattle.omf_linking.proofs.locator.tables.KeyTable.named.Goals as goal

pub returns-in-Some-One : goal.returns-in-Some-One
returns-in-Some-One c = λ texts numbers table. ap (λ h. answer_of (Some h)) (sym c.in-Some-One.field-0-is) ∙ ap answer_of (sym c.in-Some-One.is ∙ c.copied.ensures ∙ c.get.ensures.value ∙ table c.args.text.now) ∙ answered (filter (λ i. is_text c.args.text.now (texts i)) numbers)

pub returns-in-Some-Several : goal.returns-in-Some-Several
returns-in-Some-Several c = λ texts numbers table. ap (λ h. answer_of (Some h)) (sym c.in-Some-Several.field-0-is) ∙ ap answer_of (sym c.in-Some-Several.is ∙ c.copied.ensures ∙ c.get.ensures.value ∙ table c.args.text.now) ∙ answered (filter (λ i. is_text c.args.text.now (texts i)) numbers)

pub returns-in-None : goal.returns-in-None
returns-in-None c = λ texts numbers table. ap answer_of (sym c.in-None.is ∙ c.copied.ensures ∙ c.get.ensures.value ∙ table c.args.text.now) ∙ answered (filter (λ i. is_text c.args.text.now (texts i)) numbers)

use Rattle.std.proofs.Common.{◌∙◌, ap, length, sym}
use Rattle.omf_linking.specs.Inner.KeyTables.{module_text}
use Rattle.omf_linking.specs.Inner.LineParsing.{key_seen}
use Rattle.omf_linking.specs.Locator.Keys.{count_from, module_named}
use Rattle.omf_linking.proofs.KeyTableLaws.{modules-agree, none-passes}
use Rattle.omf_linking.proofs.locator.tables.ModuleKeys.named.Goals as goal

pub returns-in-Named : goal.returns-in-Named
returns-in-Named c = λ ms h.
    let is = count_from 0 (length ms) in
    c.named.ensures (module_text ms) is h.names_are ∙ modules-agree ms c.in-Named.name.now is ∙ ap (λ k. module_named ms (key_seen k)) (sym c.in-Named.is)

pub returns-in-OfClass : goal.returns-in-OfClass
returns-in-OfClass c = λ ms h. sym (ap (λ k. module_named ms (key_seen k)) c.in-OfClass.is ∙ none-passes (count_from 0 (length ms)))

use Rattle.std.proofs.Common.{◌+◌, ◌∷◌, [], ◌++◌, ◌∙◌, ap, drop, rules}
use Rattle.std.specs.Prelude.{map, string_bytes}
use Rattle.std.proofs.lemmas.List.{map-append}
use Rattle.omf_check.specs.Module.{records_in, typed_modules}
use Rattle.omf_check.specs.WellFormed.{recs}
use Rattle.omf_placement.specs.Quoted.{quoted}
use Rattle.omf_linking.specs.Locator.KeyForms.{module_texts}
use Rattle.omf_linking.specs.Locator.Keys.{module_name}
use Rattle.omf_linking.proofs.KeyLaws.{next-one, none-left}
use Rattle.omf_linking.proofs.KeyLaws.{more-in, all-in}
use Rattle.omf_linking.proofs.locator.forms.module_texts.Goals as goal

pub loop-module-init : goal.loop-module-init
loop-module-init c = search rules

pub loop-module-preserved : goal.loop-module-preserved
loop-module-preserved c =
    let ms = c.args.modules.now in
    let j = c.loop-module.module-index in
    let items = c.loop-module.texts.items in
    more-in (map string_bytes items) (map string_bytes c.push.new.self.items) (quoted (module_name (recs (records_in c.module-item.result.bytes)))) (module_texts (typed_modules (drop (j + 1) ms))) (module_texts (typed_modules (drop j ms))) (module_texts (typed_modules ms))
    (ap (map string_bytes) c.in_ok-push.ensures.items ∙ map-append string_bytes items (_ ∷ []) ∙ ap (λ t. map string_bytes items ++ t ∷ []) c.in_ok-quoted_name.ensures)
    (ap module_texts (next-one ms j c.module-item.result c.module-item.is c.loop-module-test.true)) c.loop-module.invariant

pub returns : goal.returns
returns c =
    let ms = c.args.modules.now in
    let j = c.loop-module.module-index in
    all-in (map string_bytes c.loop-module.texts.items) (module_texts (typed_modules (drop j ms))) (module_texts (typed_modules ms)) (ap module_texts (none-left ms j c.loop-module-test.false)) c.loop-module.invariant

use Rattle.std.proofs.Common.{◌++◌, ◌∙◌, List, ap, ap₂, map, string_bytes}
use Rattle.std.proofs.lemmas.Result.{err_from_is_err_and}
use Rattle.omf_check.specs.Module.{typed_modules}
use Rattle.omf_linking.specs.Locator.Sparse.{Sparse}
use Rattle.omf_externals.specs.Unresolved.{unresolved_text}
use Rattle.omf_map.specs.Addresses.{addressed_by}
use Rattle.omf_map.specs.MapText.{map_text}
use Rattle.omf_linker.proofs.LinkRuns.{not_mapped}
use Rattle.omf_linker.proofs.link.linking.modules_map.Goals as goal

pub returns-in_err-given : goal.returns-in_err-given
returns-in_err-given c =
    let e = err_from_is_err_and c.from_residual.result c.from_residual.ensures.1 in
    rw (e.1, e.2) (not_mapped (map string_bytes c.args.labels.now) (typed_modules c.args.modules.now) c.args.text.now c.in_err-given.field-0.0 c.in_err-given.ensures.given)

pub returns : goal.returns
returns c =
    let ms = typed_modules c.args.modules.now in
    let ss = c.in_ok-given.given.items in
    let labels = map string_bytes c.args.labels.now in
    let listed = c.in_ok-shown.ensures ∙ ap (λ (xs : List Sparse). map_text (addressed_by ms xs)) c.deref.ensures.value in
    let lines = c.as_str.ensures.value ∙ c.in_ok-unresolved.ensures ∙ ap (λ (xs : List Sparse). unresolved_text labels ms xs) c.deref-2.ensures.value in
    (ss, c.in_ok-given.ensures.given, c.in_ok-push_str.ensures.bytes ∙ ap₂ (λ a b. a ++ b) listed lines)

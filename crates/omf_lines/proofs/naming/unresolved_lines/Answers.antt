use Rattle.std.proofs.Common.{◌∙◌, List, ap}
use Rattle.std.specs.Prelude.{map, string_bytes}
use Rattle.std.proofs.lemmas.Result.{IfOk-weaker}
use Rattle.omf_check.specs.Module.{typed_modules}
use Rattle.omf_linking.specs.Locator.Sparse.{Sparse}
use Rattle.omf_externals.specs.Unresolved.{unresolved_text}
use Rattle.omf_lines.proofs.naming.unresolved_lines.Goals as goal

pub returns-in-Ok : goal.returns-in-Ok
returns-in-Ok c =
    let labels = map string_bytes c.args.named.labels.now in
    let ms = typed_modules c.args.named.modules.now in
    IfOk-weaker c.unresolved_text.result _ _ (λ lines h. (c.in-Ok.by_hand.items, c.in-Ok.ensures.given, h ∙ ap (λ (xs : List Sparse). unresolved_text labels ms xs) c.deref.ensures.value)) c.unresolved_text.ensures

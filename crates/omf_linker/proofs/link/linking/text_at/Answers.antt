use Rattle.std.proofs.Common.{◌≡◌, sym, subst, rules}
use Rattle.std.specs.Prelude.{Err}
use Rattle.omf_check.specs.Module.{typed_modules}
use Rattle.omf_records.specs.Inner.Seen.{map_ok}
use Rattle.omf_linker.specs.Link.Linked.{IsLinked}
use Rattle.omf_linker.proofs.LinkedModules.{together}
use Rattle.omf_linker.proofs.link.linking.text_at.Goals as goal

pub returns-in_err-linked-clause-shown : goal.returns-in_err-linked-clause-shown
returns-in_err-linked-clause-shown c =
    let f = c.in_err-linked.field-0.0 in
    let same : c.from_residual.result ≡ Err f = search rules in
    subst (λ r. IsLinked (typed_modules c.args.modules.now) c.args.text.now (map_ok (λ s. s.0) r)) (sym same) c.in_err-linked.ensures.linked

pub returns-clause-shown : goal.returns-clause-shown
returns-clause-shown c = (together (typed_modules c.args.modules.now) c.args.text.now c.in_ok-linked.linked c.in_ok-linked.ensures.linked, c.in_ok-shown.ensures)

pub returns-clause-linked : goal.returns-clause-linked
returns-clause-linked c = c.in_ok-linked.ensures.linked.placed

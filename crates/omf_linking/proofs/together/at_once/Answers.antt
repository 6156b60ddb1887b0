use Rattle.std.proofs.Common.{◌≡◌, sym, subst, rules}
use Rattle.std.specs.Prelude.{Err}
use Rattle.omf_check.specs.Module.{typed_modules}
use Rattle.omf_linking.specs.Together.{IsTogether}
use Rattle.omf_linking.proofs.TogetherLaws.{one, two_starts}
use Rattle.omf_linking.proofs.together.at_once.Goals as goal

pub returns-in_err-start : goal.returns-in_err-start
returns-in_err-start c =
    let f = c.in_err-start.field-0.0 in
    let same : c.from_residual-in_err-start.result ≡ Err f = search rules in
    subst (λ r. IsTogether (typed_modules c.args.modules.now) c.args.placements.now c.args.stored.now r) (sym same)
    (two_starts (typed_modules c.args.modules.now) c.args.placements.now c.args.stored.now c.in_ok-relocated.relocated.items c.deref.result.now c.deref-2.result.now c.deref.ensures.value c.deref-2.ensures.value c.in_ok-relocated.ensures.relocated
    c.in_ok-memory.memory f (c.in_ok-memory.ensures.stored c.args.placements.now) c.in_err-start.ensures)

pub returns : goal.returns
returns c =
    one (typed_modules c.args.modules.now) c.args.placements.now c.args.stored.now c.in_ok-relocated.relocated.items c.deref.result.now c.deref-2.result.now c.deref.ensures.value c.deref-2.ensures.value c.in_ok-relocated.ensures.relocated
    c.in_ok-memory.memory c.in_ok-start.start (c.in_ok-memory.ensures.stored c.args.placements.now) c.in_ok-start.ensures

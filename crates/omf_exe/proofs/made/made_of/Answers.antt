use Rattle.std.proofs.Common.{◌≡◌, ◌∙◌, ◌≤◌, ℕ, List, inl, inr, length, rules, subst, sym}
use Rattle.std.specs.Prelude.{Err, IfErr, true}
use Rattle.omf_exe.specs.Making.{AreBytesOf, HaveNoBytes, IsNotMadeOf, IsNotSettledOf}
use Rattle.omf_exe.specs.Refusing.{HaveNamesTwice, IsRefusalFor}
use Rattle.omf_exe.proofs.StartLaws.{program-long}
use Rattle.omf_exe.proofs.made.made_of.Goals as goal

pub stack_note-requires : goal.stack_note-requires
stack_note-requires c = λ e.
    let p = c.in_ok-linked.linked in
    let made = subst (λ kind. AreBytesOf kind c.maximum-most.result c.in_ok-looked.looked.settled p.bytes.items p.lacks_stack) e c.in_ok-linked.ensures.bytes in
    subst (λ (xs : List ℕ). 28 ≤ length xs) (sym c.deref.ensures.value) (program-long _ _ p.bytes.items p.lacks_stack made)

pub returns-in_err-looked-clause-refused : goal.returns-in_err-looked-clause-refused
returns-in_err-looked-clause-refused c =
    let o = c.args.options.now in
    let f = c.in_err-looked.field-0.0 in
    let same : c.from_residual.result ≡ Err f = search rules in
    subst (λ r. IfErr r (IsRefusalFor (IsNotMadeOf o c.args.modules.now.modules))) (sym same) (λ e. inl (subst (IsNotSettledOf o) c.origins-program.ensures.modules (c.in_err-looked.ensures.refused e)))

pub returns-in_err-linked-clause-refused : goal.returns-in_err-linked-clause-refused
returns-in_err-linked-clause-refused c =
    let o = c.args.options.now in
    let f = c.in_err-linked.field-0.0 in
    let same : c.from_residual-in_err-linked.result ≡ Err f = search rules in
    let all = c.in_ok-looked.ensures.same ∙ c.origins-program.ensures.modules in
    subst (λ r. IfErr r (IsRefusalFor (IsNotMadeOf o c.args.modules.now.modules))) (sym same) (λ e. inr (inl (subst (HaveNoBytes o.kind) all (c.in_err-linked.ensures.refused e))))

pub returns-in_err-repeated-clause-refused : goal.returns-in_err-repeated-clause-refused
returns-in_err-repeated-clause-refused c =
    let o = c.args.options.now in
    let f = c.in_err-repeated.field-0.0 in
    let same : c.from_residual-in_err-repeated.result ≡ Err f = search rules in
    let all = c.in_ok-looked.ensures.same ∙ c.origins-program.ensures.modules in
    subst (λ r. IfErr r (IsRefusalFor (IsNotMadeOf o c.args.modules.now.modules))) (sym same)
    (λ e. let h = c.in_err-repeated.ensures.refused e in inr (inr (h.0, subst (λ ms. HaveNamesTwice ms true) all h.1)))

use Rattle.std.proofs.Common.{◌≡◌, ◌∙◌, ap, rules, sym, subst}
use Rattle.std.specs.Prelude.{Err, IfErr, filter_map}
use Rattle.omf_output.specs.Exe.Exe.{exe}
use Rattle.omf_output.specs.Exe.Linked.{IsExeFault, member_fault}
use Rattle.omf_output.specs.Exe.Loading.{loaded}
use Rattle.omf_output.proofs.LinkedLaws.{exe-none, get-none, image-short, judged-of, later-first, many-or-memory, member-first, plan-none, plain-none, program-linked, program-loaded, reached-of, ready, words-first, words-in-image}
use Rattle.omf_output.proofs.exe.link.link_exe.Goals as goal

pub returns-in-Some-clause-fault : goal.returns-in-Some-clause-fault
returns-in-Some-clause-fault c = member-first c.args.members.now c.in-Some.fault (sym c.first_fault.ensures ∙ c.in-Some.is)

pub plan_of-requires : goal.plan_of-requires
plan_of-requires c = reached-of c.args.members.now (sym c.first_fault.ensures ∙ c.in_default.is)

pub returns-in_err-plan-clause-fault : goal.returns-in_err-plan-clause-fault
returns-in_err-plan-clause-fault c =
    let ms = c.args.members.now in
    let f = c.in_err-plan.field-0.0 in
    let same : c.from_residual.result ≡ Err f = search rules in
    subst (λ r. IfErr r (IsExeFault ms)) (sym same) (later-first ms f (get-none (filter_map member_fault ms) (sym c.first_fault.ensures ∙ c.in_default.is)) c.in_err-plan.ensures.fault)

pub returns-in_err-program-clause-fault : goal.returns-in_err-program-clause-fault
returns-in_err-program-clause-fault c =
    let ms = c.args.members.now in
    let f = c.in_err-program.field-0.0 in
    let same : c.from_residual-in_err-program.result ≡ Err f = search rules in
    let none = get-none (filter_map member_fault ms) (sym c.first_fault.ensures ∙ c.in_default.is) in
    subst (λ r. IfErr r (IsExeFault ms)) (sym same) (words-first ms f (plain-none ms none (plan-none ms c.in_ok-plan.plan c.in_ok-plan.ensures.plan)) c.in_err-program.ensures.fault)

pub file_of-requires-clause-short : goal.file_of-requires-clause-short
file_of-requires-clause-short c =
    let ms = c.args.members.now in
    let p = c.in_ok-program.program in
    let r = ready ms c.in_ok-plan.ensures.hold (sym c.first_fault.ensures ∙ c.in_default.is) in
    image-short ms c.in_ok-plan.plan c.in_ok-plan.ensures.plan p c.in_ok-program.ensures.image (judged-of ms p.words r c.in_ok-program.ensures.adds)

pub file_of-requires-clause-inside : goal.file_of-requires-clause-inside
file_of-requires-clause-inside c =
    let ms = c.args.members.now in
    let p = c.in_ok-program.program in
    let r = ready ms c.in_ok-plan.ensures.hold (sym c.first_fault.ensures ∙ c.in_default.is) in
    words-in-image ms c.in_ok-plan.plan c.in_ok-plan.ensures.plan p c.in_ok-program.ensures.image (judged-of ms p.words r c.in_ok-program.ensures.adds)

pub returns-in_err-bytes-clause-fault : goal.returns-in_err-bytes-clause-fault
returns-in_err-bytes-clause-fault c =
    let ms = c.args.members.now in
    let f = c.in_err-bytes.field-0.0 in
    let same : c.from_residual-in_err-bytes.result ≡ Err f = search rules in
    let none = get-none (filter_map member_fault ms) (sym c.first_fault.ensures ∙ c.in_default.is) in
    subst (λ r. IfErr r (IsExeFault ms)) (sym same)
    (many-or-memory ms c.in_ok-program.program f none (plan-none ms c.in_ok-plan.plan c.in_ok-plan.ensures.plan) c.in_ok-program.ensures.words c.in_err-bytes.ensures.fault)

pub returns-clause-file : goal.returns-clause-file
returns-clause-file c =
    let ms = c.args.members.now in
    let p = c.in_ok-program.program in
    let e = c.in_ok-program.ensures in
    let r = ready ms c.in_ok-plan.ensures.hold (sym c.first_fault.ensures ∙ c.in_default.is) in
    c.in_ok-bytes.ensures.file ∙ ap (exe c.args.most) (program-linked ms c.in_ok-plan.plan c.in_ok-plan.ensures.plan p e.image (judged-of ms p.words r e.adds) e.registers.0 e.registers.1 e.extra)

pub returns-clause-loaded : goal.returns-clause-loaded
returns-clause-loaded c =
    let ms = c.args.members.now in
    let p = c.in_ok-program.program in
    let e = c.in_ok-program.ensures in
    let r = ready ms c.in_ok-plan.ensures.hold (sym c.first_fault.ensures ∙ c.in_default.is) in
    λ k.
    ap (λ l. loaded l k) c.in_ok-bytes.ensures.file
    ∙ program-loaded ms c.in_ok-plan.plan c.in_ok-plan.ensures.plan p e.image (judged-of ms p.words r e.adds) e.registers.0 e.registers.1 e.extra c.args.most c.in_ok-bytes.ensures.writable r k

pub returns-clause-none : goal.returns-clause-none
returns-clause-none c =
    let ms = c.args.members.now in
    let none = get-none (filter_map member_fault ms) (sym c.first_fault.ensures ∙ c.in_default.is) in
    exe-none ms c.in_ok-program.program.words (plain-none ms none (plan-none ms c.in_ok-plan.plan c.in_ok-plan.ensures.plan)) c.in_ok-program.ensures.words c.in_ok-bytes.ensures.writable.few

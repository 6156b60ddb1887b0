use Rattle.std.proofs.Common.{◌+◌, List, ℕ, drop, subst, sym, arith}
use Rattle.std.specs.Prelude.{MatchOption, Option, ⊤}
use Rattle.omf_finding.specs.declared.findings.Verdict.{Verdict}
use Rattle.omf_find.specs.declared.parts.Part.{Part}
use Rattle.omf_find.specs.Parts.{Adds, IsHeldIf, IsPart}
use Rattle.omf_placement.proofs.StepLaws.{next_item, none_left}
use Rattle.omf_find.proofs.PartLaws.{none_added, one_more_added, all_added, held_at}
use Rattle.omf_find.proofs.parts.Parts.take_all.Goals as goal

pub loop-number-init : goal.loop-number-init
loop-number-init c = none_added c.args.program.now c.args.modules.now c.args.verdicts.now c.args.self.now

pub take-requires : goal.take-requires
take-requires c =
    let ms = c.args.modules.now in
    let vs = c.args.verdicts.now in
    let p = c.args.program.now in
    let n = c.loop-number.number in
    let m = c.index-modules-number.result in
    subst (λ (v : Option Verdict). MatchOption v ⊤ (IsHeldIf p m)) (sym c.verdict_of-verdict.ensures) (held_at p ms vs n m c.requires c.index-modules-number.is c.loop-number-test.true)

pub loop-number-preserved : goal.loop-number-preserved
loop-number-preserved c =
    let ms = c.args.modules.now in
    let vs = c.args.verdicts.now in
    let p = c.args.program.now in
    let n = c.loop-number.number in
    let m = c.index-modules-number.result in
    let taken = subst (λ (v : Option Verdict). (one : List Part) × (left : List ℕ) × IsPart p n m v one left × Adds c.loop-number.self c.take.new.self one left) c.verdict_of-verdict.ensures c.in_ok-take.ensures in
    one_more_added p ms vs n m (drop (n + 1) ms) (drop n ms) c.args.self.now c.loop-number.self c.take.new.self c.loop-number.invariant
    (next_item ms n m c.index-modules-number.is c.loop-number-test.true) taken

pub returns : goal.returns
returns c =
    let ms = c.args.modules.now in
    let n = c.loop-number.number in
    all_added c.args.program.now ms c.args.verdicts.now n (drop n ms) c.args.self.now c.loop-number.self c.loop-number.invariant (none_left ms n (omega (arith, c.loop-number-test.false)))

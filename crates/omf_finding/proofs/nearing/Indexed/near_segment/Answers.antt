use Rattle.std.proofs.Common.{rules, arith, ◌≡◌, ◌∙◌, ◌<◌, ◌≤◌, List, ℕ, ap, length, refl, subst, sym}
use Rattle.std.specs.Prelude.{Contains}
use Rattle.omf_finding.specs.Near.{differences}
use Rattle.omf_finding.specs.declared.closed.ClosedByte.{ClosedByte}
use Rattle.omf_finding.proofs.NearLaws.{near-none, near-same, near-some}
use Rattle.omf_finding.proofs.nearing.Indexed.near_segment.Goals as goal

pub returns-in_default : goal.returns-in_default
returns-in_default c =
    let addresses = c.deref.result.now in
    λ byte are.
    near-none byte c.args.intervals.now are c.args.self.now.program.now c.args.most c.args.segment addresses (λ a h. subst (λ (xs : List ℕ). Contains xs a) (sym c.deref.ensures.value) (c.in_ok-addresses.ensures a h))
    c.deref-2.result.now (c.deref-2.ensures.value ∙ c.in_ok-closed.ensures) c.in_default.ensures

pub returns-then-place-eq0 : goal.returns-then-place-eq0
returns-then-place-eq0 c =
    let addresses = c.deref.result.now in
    let none : c.in-Some.place.count ≤ 0 = omega (arith, c.if-place-eq0.true) in
    λ byte are.
    near-same byte c.args.intervals.now are c.args.self.now.program.now c.args.most c.args.segment addresses (λ a h. subst (λ (xs : List ℕ). Contains xs a) (sym c.deref.ensures.value) (c.in_ok-addresses.ensures a h))
    c.deref-2.result.now (c.deref-2.ensures.value ∙ c.in_ok-closed.ensures) c.in-Some.place c.in-Some.ensures none

pub returns : goal.returns
returns c =
    let addresses = c.deref.result.now in
    let program = c.args.self.now.program.now in
    let place = c.in-Some.place in
    let some : 0 < place.count = omega (arith, c.if-place-eq0.false) in
    let long : c.len.result ≡ length c.in_ok-closed.closed.items = search rules in
    let same = c.in_ok-differences.ensures ∙ ap (λ (cs : List ClosedByte). differences program.bytes.items program.base place.address cs) (c.deref-3.ensures.value ∙ sym c.deref-2.ensures.value) in
    λ byte are.
    near-some byte c.args.intervals.now are program c.args.most c.args.segment addresses (λ a h. subst (λ (xs : List ℕ). Contains xs a) (sym c.deref.ensures.value) (c.in_ok-addresses.ensures a h))
    c.deref-2.result.now (c.deref-2.ensures.value ∙ c.in_ok-closed.ensures) place c.in-Some.ensures some _ refl refl (long ∙ ap (λ (cs : List ClosedByte). length cs) (sym c.deref-2.ensures.value)) same

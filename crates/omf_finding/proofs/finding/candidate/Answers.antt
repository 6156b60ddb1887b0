use Rattle.std.proofs.Common.{◌∙◌, List, ℕ, length, refl, sym, ap, subst}
use Rattle.std.specs.Prelude.{◌==◌, ◌&&◌, not}
use Rattle.omf_finding.specs.Finding.{IsReason}
use Rattle.omf_finding.proofs.CandidateLaws.{offered-none, offered-some}
use Rattle.omf_finding.proofs.finding.candidate.Goals as goal

pub returns-then-is_untold : goal.returns-then-is_untold
returns-then-is_untold c =
    let s = c.args.shape.now in
    let same = ap (λ (xs : List ℕ). (length xs == 0) && not (s.is_searched && s.more)) (sym c.deref.ensures.value) in
    λ m own all shaped.
    offered-none c.args.ended.program.now m s c.args.ended.most shaped c.in_ok-addresses.addresses.items c.in_ok-addresses.ensures.searched (same ∙ sym c.is_untold.ensures ∙ c.if-is_untold.true)

pub returns : goal.returns
returns c =
    let s = c.args.shape.now in
    let found = c.in_ok-addresses.ensures in
    let same = ap (λ (xs : List ℕ). (length xs == 0) && not (s.is_searched && s.more)) (sym c.deref.ensures.value) in
    λ m own all shaped.
    offered-some c.args.ended.program.now m s c.args.ended.most shaped (record { segment = s.segment; addresses = c.in_ok-addresses.addresses; more = s.more; why = c.why-why.result }) refl refl found.searched
    (λ few. found.referred few m own) (same ∙ sym c.is_untold.ensures ∙ c.if-is_untold.false)
    (subst (λ (xs : List ℕ). IsReason c.args.ended.program.now m xs s.more c.why-why.result) c.deref-2.ensures.value (c.why-why.ensures m all))

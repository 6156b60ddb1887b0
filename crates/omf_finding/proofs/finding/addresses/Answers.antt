use Rattle.std.proofs.Common.{◌≡◌, false, subst}
use Rattle.std.specs.Prelude.{IfSome}
use Rattle.omf_check.specs.Module.{Module}
use Rattle.omf_finding.specs.Inner.Shaping.{AgreeAt, IsPatternOf, bytes_of}
use Rattle.omf_finding.specs.Inner.Walking.{byte_in}
use Rattle.omf_finding.proofs.CandidateLaws.{agree-as}
use Rattle.omf_finding.proofs.ShapeLaws.{if-ok}
use Rattle.omf_finding.proofs.finding.addresses.Goals as goal

pub returns-in-Some-clause-referred : goal.returns-in-Some-clause-referred
returns-in-Some-clause-referred c =
    let program = c.args.ended.program.now in
    let s = c.args.shape.now in
    let p = c.in-Some.pattern in
    if-ok (λ v. AgreeAt (byte_in p s.segment) program v.items)
    (λ v. s.is_searched ≡ false → (m : Module) → IfSome c.args.pattern.now (IsPatternOf m) → AgreeAt (bytes_of m s.segment) program v.items)
    (λ v h few m own. agree-as m p (subst (λ o. IfSome o (IsPatternOf m)) c.in-Some.is own) program s.segment v.items h) c.referred_places.result c.referred_places.ensures

use Rattle.std.proofs.Common.{subst}
use Rattle.omf_finding.specs.Near.{AreNear}
use Rattle.omf_finding.specs.Inner.Nearing.{AreNearOf}
use Rattle.omf_finding.specs.Inner.Walking.{byte_in}
use Rattle.omf_finding.proofs.NearLaws.{module-nears}
use Rattle.omf_finding.proofs.ShapeLaws.{if-ok}
use Rattle.omf_finding.proofs.nearing.Indexed.near_module.Goals as goal

pub returns : goal.returns
returns c =
    let m = c.args.module.now in
    let program = c.args.self.now.program.now in
    let most = c.args.most in
    let p = c.in_ok-pattern.pattern in
    let count = c.segment_count-count.result in
    if-ok (λ v. AreNearOf (byte_in p) program most count v.items) (λ v. AreNear program most m v.items)
    (λ v h.
    module-nears m c.segment_count-count.ensures.holds (byte_in p) c.in_ok-pattern.ensures.bytes program most v.items
    (subst (λ n. AreNearOf (byte_in p) program most n v.items) c.segment_count-count.ensures.count h))
    c.near_segments.result c.near_segments.ensures

use Rattle.std.proofs.Common.{subst}
use Rattle.omf_finding.specs.Inner.Shaping.{AreShapes, HaveShapes, bytes_of}
use Rattle.omf_finding.specs.Inner.Walking.{byte_in}
use Rattle.omf_finding.proofs.ShapeLaws.{if-ok, shapes-as}
use Rattle.omf_finding.proofs.shapes.Indexed.module_shapes.Goals as goal

pub returns : goal.returns
returns c =
    let m = c.args.module.now in
    let program = c.args.self.now.program.now in
    let most = c.args.self.now.most in
    let p = c.in_ok-pattern.pattern in
    if-ok (λ v. AreShapes (byte_in p) program.bytes.items program.base most c.segments.result v.items) (λ v. HaveShapes program most m v.items)
    (λ v h.
    subst (λ n. AreShapes (bytes_of m) program.bytes.items program.base most n v.items) c.segments.ensures.count
    (shapes-as (byte_in p) (bytes_of m) c.in_ok-pattern.ensures.bytes program.bytes.items program.base most c.segments.result v.items h))
    c.pattern_shapes.result c.pattern_shapes.ensures

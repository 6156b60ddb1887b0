use Rattle.std.proofs.Common.{rules, ◌≡◌, ◌≤◌, ◌∙◌, sym, arith}
use Rattle.omf_check.specs.Module.{recs_of}
use Rattle.omf_finding.specs.Chain.{enough}
use Rattle.omf_finding.proofs.ChainLaws.{alone-shape}
use Rattle.omf_finding.proofs.chaining.Tried.is_sure_at.Goals as goal

pub returns-clause-some : goal.returns-clause-some
returns-clause-some c =
    let t = c.args.self in
    let s = c.args.shape.now in
    let m = c.args.module.now in
    let place = c.in-Some-present_at.place in
    let same : place.address ≡ c.in-Some.address = search rules in
    let least = c.enough.ensures in
    let many : enough t.least (recs_of m.bytes) s.segment ≤ s.closed = omega (arith, c.if-shape-enough.false, least) in
    λ yes shape. alone-shape t.program.now t.most t.least m s c.args.found.now place c.in-Some.address c.in-Some.ensures.some.0 c.in-Some.ensures.some.1 (sym c.present_at.ensures ∙ c.in-Some-present_at.is) same many shape

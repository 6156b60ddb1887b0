use Rattle.std.proofs.Common.{◌+◌, List, take, sym, subst, arith}
use Rattle.std.specs.List.{AllZip}
use Rattle.omf_finding.specs.Chain.{Draft, IsDraft}
use Rattle.omf_finding.specs.Inner.Shaping.{HasShapes}
use Rattle.omf_finding.proofs.CandidateLaws.{zip-long}
use Rattle.omf_finding.proofs.ChainLaws.{draft-of}
use Rattle.omf_finding.proofs.TellingLaws.{zip-more, zip-end}
use Rattle.omf_finding.proofs.finding.drafts.Goals as goal

pub bounds-shapes-number : goal.bounds-shapes-number
bounds-shapes-number c =
    let long = zip-long (HasShapes c.args.ended.program.now c.args.ended.most) c.args.modules.now c.args.shapes.now c.requires in
    omega (arith, c.loop-number-test.true, long)

pub loop-number-preserved : goal.loop-number-preserved
loop-number-preserved c =
    let draft = IsDraft c.args.ended.program.now in
    let ms = c.args.modules.now in
    let n = c.loop-number.number in
    subst (λ (vs : List Draft). AllZip draft (take (n + 1) ms) vs) (sym c.in_ok-push.ensures.items)
    (zip-more draft ms c.loop-number.drafts.items n c.index-modules-number.result c.in_ok-held.field-0 c.index-modules-number.is c.loop-number-test.true c.loop-number.invariant (draft-of c.args.ended.program.now c.index-modules-number.result c.in_ok-tried.tried c.in_ok-held.field-0 c.in_ok-held.ensures))

pub returns : goal.returns
returns c = zip-end (IsDraft c.args.ended.program.now) c.args.modules.now c.loop-number.drafts.items c.loop-number.number c.loop-number-test.false c.loop-number.invariant

use Rattle.std.proofs.Common.{◌+◌, arith}
use Rattle.omf_check.specs.Module.{recs_of}
use Rattle.omf_finding.specs.Chain.{RefersTo}
use Rattle.omf_finding.specs.Inner.Closing.{FirstOf, RefersBy}
use Rattle.omf_finding.proofs.CloseLaws.{adds-as, adds-first, adds-next, refers-by, refers-to}
use Rattle.omf_finding.proofs.closing.ReferredNames.add_module.Goals as goal

pub loop-before-init : goal.loop-before-init
loop-before-init c = (adds-first c.args.self.now.spots (λ k. RefersBy (recs_of c.args.«module».now.bytes) c.args.found.now (k + 1)), c.externals-before-end.ensures.count)

pub loop-before-preserved : goal.loop-before-preserved
loop-before-preserved c =
    let m = recs_of c.args.«module».now.bytes in (
      adds-next c.args.self.now.spots c.loop-before.self.spots c.add_external.new.self.spots c.loop-before.before (λ k. RefersBy m c.args.found.now (k + 1)) c.in_ok-add_external.ensures c.loop-before.invariant.0,
      c.loop-before.invariant.1,
    )

pub returns : goal.returns
returns c =
    let m = recs_of c.args.«module».now.bytes in
    let f = c.args.found.now in
    let n = c.loop-before.before in
    let end = c.loop-before.invariant.1 in
    adds-as c.args.self.now.spots c.loop-before.self.spots (FirstOf n (λ k. RefersBy m f (k + 1))) (RefersTo m f) (refers-to m f n) (refers-by m f n (omega (arith, c.loop-before-test.false, end))) c.loop-before.invariant.0

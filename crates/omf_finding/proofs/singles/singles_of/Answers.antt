use Rattle.std.proofs.Common.{◌∙◌, ◌++◌, ◌<◌, List, length, refl, ap, arith}
use Rattle.std.proofs.lemmas.Option.{slice_get_read}
use Rattle.omf_finding.specs.Inner.Shaping.{HasShapes}
use Rattle.omf_finding.specs.Inner.Singling.{own_singles}
use Rattle.omf_finding.specs.declared.shapes.Shape.{Shape}
use Rattle.omf_finding.proofs.CandidateLaws.{zip-long}
use Rattle.omf_finding.proofs.SingleLaws.{apart-next, numbered-of, singles-first, singles-next}
use Rattle.omf_finding.proofs.singles.singles_of.Goals as goal

pub loop-owner-init : goal.loop-owner-init
loop-owner-init c =
    let first = singles-first c.args.least c.args.modules.now c.args.shapes.now c.new-all.result.items c.new-all.ensures.items in
    record { have = first.0; apart = first.1 }

pub bounds-shapes-owner : goal.bounds-shapes-owner
bounds-shapes-owner c =
    let long = zip-long (HasShapes c.requires.0 c.requires.1) c.args.modules.now c.args.shapes.now c.requires.2 in
    omega (arith, c.loop-owner-test.true, long)

pub loop-owner-preserved : goal.loop-owner-preserved
loop-owner-preserved c =
    let n = c.args.least in
    let ms = c.args.modules.now in
    let shapes = c.args.shapes.now in
    let k = c.loop-owner.owner in
    let m = c.index-modules-owner.result in
    let ss = c.index-shapes-owner.result in
    let long = zip-long (HasShapes c.requires.0 c.requires.1) ms shapes c.requires.2 in
    let low : k < length shapes = omega (arith, c.loop-owner-test.true, long) in
    let is = slice_get_read ms (length ms) k m refl c.loop-owner-test.true c.index-modules-owner.is in
    let are = slice_get_read shapes (length shapes) k ss refl low c.index-shapes-owner.is in
    let old = c.loop-owner.all.items in
    let pushed = c.in_ok-add_all.ensures ∙ ap (λ (xs : List Shape). old ++ own_singles n k m xs) c.deref.ensures.value in
    record {
      have = singles-next n ms shapes k m ss old c.add_all.new.all.items is are pushed c.loop-owner.invariant.have;
      apart = apart-next n ms shapes k m ss old c.add_all.new.all.items is are pushed c.loop-owner.invariant.have (numbered-of c.requires.0 c.requires.1 ms shapes c.requires.2 k m ss is are) c.loop-owner.invariant.apart;
    }

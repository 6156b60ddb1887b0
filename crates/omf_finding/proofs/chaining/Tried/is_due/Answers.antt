use Rattle.std.proofs.Common.{sym, refl, subst}
use Rattle.omf_finding.specs.Inner.Shaping.{HasShapes, HaveShapes}
use Rattle.omf_finding.specs.Inner.Surely.{HasSureShape}
use Rattle.omf_finding.proofs.ChainLaws.{zip-get}
use Rattle.omf_finding.proofs.SureLaws.{own-there, shapes-there, sure-shapes}
use Rattle.omf_finding.proofs.chaining.Tried.is_due.Goals as goal

pub unreachable-requires : goal.unreachable-requires
unreachable-requires c =
    let t = c.args.self in
    shapes-there t.program.now t.most t.modules.now t.shapes.now c.args.number c.args.«module».now c.requires.shapes c.requires.number c.get.result c.in_default.is c.get.ensures.lookup.0

pub is_sure-requires-clause-shapes : goal.is_sure-requires-clause-shapes
is_sure-requires-clause-shapes c =
    let t = c.args.self in
    let m = c.args.«module».now in
    let are = own-there t.shapes.now c.args.number c.in-Some.own c.get.result c.in-Some.is c.get.ensures.lookup in
    subst (HaveShapes t.program.now t.most m) (sym c.as_slice.ensures.value) (zip-get (HasShapes t.program.now t.most) t.modules.now t.shapes.now c.args.number m c.in-Some.own.now c.requires.shapes c.requires.number are)

pub returns-clause-alone : goal.returns-clause-alone
returns-clause-alone c =
    let t = c.args.self in
    let m = c.args.«module».now in
    let f = c.args.found.now in
    let are = own-there t.shapes.now c.args.number c.in-Some.own c.get.result c.in-Some.is c.get.ensures.lookup in
    λ no inside two sure.
    c.is_sure.ensures.alone c.if-is_sure.false
    (subst (HasSureShape t c.args.number m f) (sym c.as_slice.ensures.value)
    (sure-shapes t.program.now t.least t.most t.modules.now t.shapes.now t.singles.now.alone c.requires.shapes c.requires.singles c.args.number m c.in-Some.own.now f c.requires.number are inside two c.segment_count-count.ensures.holds sure t refl refl))

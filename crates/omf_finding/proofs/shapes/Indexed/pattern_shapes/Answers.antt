use Rattle.std.proofs.Common.{◌+◌, [], ◌∷◌, length, sym, ap, subst, arith}
use Rattle.std.specs.Prelude.{All}
use Rattle.std.proofs.lemmas.List.{length-append}
use Rattle.omf_finding.specs.Inner.Shaping.{AreIntervals, AreShapes, IsShape, IsWhole}
use Rattle.omf_finding.specs.Inner.Walking.{byte_in}
use Rattle.omf_finding.proofs.ShapeLaws.{intervals-whole, shapes-first, shapes-last, shapes-next}
use Rattle.omf_finding.proofs.shapes.Indexed.pattern_shapes.Goals as goal

pub loop-index-init : goal.loop-index-init
loop-index-init c =
    let bytes = byte_in c.args.pattern.now in
    let program = c.args.self.now.program.now in
    let most = c.args.self.now.most in
    record {
      are = subst (AreShapes bytes program.bytes.items program.base most 0) (sym c.in_ok-shapes.ensures.items) (shapes-first bytes program.bytes.items program.base most);
      count = ap length c.in_ok-shapes.ensures.items;
    }

pub shape-requires-clause-whole : goal.shape-requires-clause-whole
shape-requires-clause-whole c =
    let byte = byte_in c.args.pattern.now (c.loop-index.index + 1) in
    subst (All IsWhole) (sym c.deref.ensures.value) (intervals-whole byte c.in_ok-intervals.intervals.items c.in_ok-intervals.ensures)

pub loop-index-preserved : goal.loop-index-preserved
loop-index-preserved c =
    let bytes = byte_in c.args.pattern.now in
    let program = c.args.self.now.program.now in
    let most = c.args.self.now.most in
    let index = c.loop-index.index in
    let s = c.in_ok-shape.field-0 in
    let are = subst (AreIntervals (bytes (index + 1))) (sym c.deref.ensures.value) c.in_ok-intervals.ensures in
    let one = c.in_ok-shape.ensures.shape (bytes (index + 1)) are in
    let old = c.loop-index.shapes.items in
    let size = length-append old (s ∷ []) in
    let pushed = ap length c.in_ok-push.ensures.items in
    let count = c.loop-index.invariant.count in
    record {
      are = shapes-next bytes program.bytes.items program.base most index old c.push.new.self.items s (subst (λ n. IsShape (bytes n) program.bytes.items program.base most s) (sym c.in_ok-shape.ensures.segment) one) c.in_ok-shape.ensures.segment count
          c.in_ok-push.ensures.items c.loop-index.invariant.are;
      count = omega (arith, size, pushed, count);
    }

pub returns : goal.returns
returns c =
    let program = c.args.self.now.program.now in
    let most = c.args.self.now.most in
    shapes-last (byte_in c.args.pattern.now) program.bytes.items program.base most c.loop-index.index c.args.count c.loop-index.shapes.items c.loop-index-test.false c.loop-index.invariant.are

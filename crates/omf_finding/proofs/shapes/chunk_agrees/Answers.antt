use Rattle.std.proofs.Common.{Bool, take, sym, ap, ◌∙◌, arith}
use Rattle.std.specs.Prelude.{◌&&◌}
use Rattle.omf_finding.specs.Inner.Shaping.{cells_agree}
use Rattle.omf_finding.proofs.ChunkLaws.{cells-all, cells-more}
use Rattle.omf_finding.proofs.shapes.chunk_agrees.Goals as goal

pub loop-at-preserved : goal.loop-at-preserved
loop-at-preserved c =
    let vs = c.args.values.now in
    let ms = c.args.marks.now in
    let ps = c.args.program.now in
    let at = c.loop-at.at in
    let before = cells_agree (take at vs) (take at ms) (take at ps) in
    ap (λ (t : Bool). t && c.cell_agrees-same.result) c.loop-at.invariant ∙ ap (λ (t : Bool). before && t) c.cell_agrees-same.ensures
    ∙ sym (cells-more vs ms ps at 0 0 0 (omega (arith, c.loop-at-test.true, c.requires.values)) (omega (arith, c.loop-at-test.true, c.requires.marks)) (omega (arith, c.loop-at-test.true, c.requires.program)))

pub returns : goal.returns
returns c =
    c.loop-at.invariant
    ∙ cells-all c.loop-at.at c.args.values.now c.args.marks.now c.args.program.now (omega (arith, c.loop-at-test.false, c.requires.values)) (omega (arith, c.loop-at-test.false, c.requires.marks)) (omega (arith, c.loop-at-test.false, c.requires.program))

use Rattle.std.proofs.Common.{true, false, sym, ◌∙◌}
use Rattle.omf_finding.proofs.ChunkLaws.{chunk-passed}
use Rattle.omf_finding.proofs.shapes.cells_agree.Goals as goal

pub returns-then-not-chunk_agrees : goal.returns-then-not-chunk_agrees
returns-then-not-chunk_agrees c =
    let l = c.loop-left in
    let v = c.split_at in
    let m = c.split_at-in-loop-left in
    let p = c.split_at-in-loop-left-2 in
    let long = c.loop-left-test.true in
    sym (sym l.invariant ∙ chunk-passed 16 l.left.now l.left_marks.now l.there.now v.result.0.now m.result.0.now p.result.0.now v.result.1.now m.result.1.now p.result.1.now false
    (c.have_chunks.ensures.values long) (c.have_chunks.ensures.marks long) (c.have_chunks.ensures.program long) v.ensures.front m.ensures.front p.ensures.front v.ensures.back m.ensures.back p.ensures.back
    (sym c.chunk_agrees.ensures ∙ c.if-not-chunk_agrees.true))

pub loop-left-preserved : goal.loop-left-preserved
loop-left-preserved c =
    let l = c.loop-left in
    let v = c.split_at in
    let m = c.split_at-in-loop-left in
    let p = c.split_at-in-loop-left-2 in
    let long = c.loop-left-test.true in
    sym (chunk-passed 16 l.left.now l.left_marks.now l.there.now v.result.0.now m.result.0.now p.result.0.now v.result.1.now m.result.1.now p.result.1.now true
    (c.have_chunks.ensures.values long) (c.have_chunks.ensures.marks long) (c.have_chunks.ensures.program long) v.ensures.front m.ensures.front p.ensures.front v.ensures.back m.ensures.back p.ensures.back
    (sym c.chunk_agrees.ensures ∙ c.if-not-chunk_agrees.false)) ∙ l.invariant

use Rattle.std.proofs.Common.{rules, ◌<◌, Bool, length, sym, ap, ◌∙◌}
use Rattle.std.specs.Prelude.{get_or, ◌&&◌}
use Rattle.omf_finding.specs.Inner.Shaping.{cell_agrees}
use Rattle.omf_finding.proofs.ChunkLaws.{cells-differ, cells-more, cells-short}
use Rattle.omf_finding.proofs.shapes.few_agree.Goals as goal

pub returns-then-not-cell_agrees : goal.returns-then-not-cell_agrees
returns-then-not-cell_agrees c =
    let vs = c.args.values.now in
    let ms = c.args.marks.now in
    let ps = c.args.program.now in
    let at = c.loop-at.at in
    let a : at < length vs = search rules in
    let b : at < length ms = search rules in
    let d : at < length ps = search rules in
    sym (cells-differ vs ms ps at 0 0 0 a b d (sym c.cell_agrees.ensures ∙ c.if-not-cell_agrees.true))

pub loop-at-preserved : goal.loop-at-preserved
loop-at-preserved c =
    let vs = c.args.values.now in
    let ms = c.args.marks.now in
    let ps = c.args.program.now in
    let at = c.loop-at.at in
    let a : at < length vs = search rules in
    let b : at < length ms = search rules in
    let d : at < length ps = search rules in
    let last = cell_agrees (get_or vs at 0) (get_or ms at 0) (get_or ps at 0) in
    cells-more vs ms ps at 0 0 0 a b d ∙ ap (λ (t : Bool). t && last) c.loop-at.invariant ∙ sym c.cell_agrees.ensures ∙ c.if-not-cell_agrees.false

pub returns : goal.returns
returns c =
    let vs = c.args.values.now in
    let ms = c.args.marks.now in
    let ps = c.args.program.now in
    sym c.loop-at.invariant ∙ cells-short c.loop-at.at vs ms ps (λ a b d. search rules)

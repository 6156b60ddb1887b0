use Rattle.std.proofs.Common.{◌∙◌, sym}
use Rattle.omf_finding.proofs.CandidateLaws.{nowhere-at}
use Rattle.omf_finding.proofs.finding.missing.Goals as goal

pub returns-then-is_nowhere : goal.returns-then-is_nowhere
returns-then-is_nowhere c =
    λ program most m h.
    nowhere-at program most m c.args.shapes.now c.shape-item.result h (c.loop-shape.shape-index, c.loop-shape-test.true, sym c.shape-item.is) (sym c.is_nowhere.ensures ∙ c.if-is_nowhere.true)

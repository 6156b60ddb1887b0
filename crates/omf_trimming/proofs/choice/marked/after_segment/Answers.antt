use Rattle.std.proofs.Common.{◌∙◌, sym}
use Rattle.omf_trimming.proofs.PastLaws.{segment-goes-on, segment-passes}
use Rattle.omf_trimming.proofs.choice.marked.after_segment.Goals as goal

pub returns-then-fixes_nothing : goal.returns-then-fixes_nothing
returns-then-fixes_nothing c = λ m rest. segment-passes m c.args.segments c.args.size c.args.record.now rest (sym c.fixes_nothing.ensures ∙ c.if-fixes_nothing.true)

pub returns : goal.returns
returns c = λ m rest. segment-goes-on m c.args.segments c.args.size c.args.record.now rest (sym c.fixes_nothing.ensures ∙ c.if-fixes_nothing.false) ∙ sym (c.begun_after.ensures m _)

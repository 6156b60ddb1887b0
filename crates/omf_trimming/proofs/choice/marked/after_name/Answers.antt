use Rattle.std.proofs.Common.{◌∙◌, sym}
use Rattle.omf_trimming.proofs.PastLaws.{name-ends, name-passes}
use Rattle.omf_trimming.proofs.choice.marked.after_name.Goals as goal

pub returns-then-fixes_nothing : goal.returns-then-fixes_nothing
returns-then-fixes_nothing c = λ m rest count. name-passes m c.args.segment c.args.size c.args.name.now c.args.record.now rest (sym c.fixes_nothing.ensures ∙ c.if-fixes_nothing.true)

pub returns : goal.returns
returns c = λ m rest count. name-ends m c.args.segment c.args.size c.args.name.now c.args.record.now rest (sym c.fixes_nothing.ensures ∙ c.if-fixes_nothing.false)

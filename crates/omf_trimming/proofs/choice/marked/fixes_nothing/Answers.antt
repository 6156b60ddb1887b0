use Rattle.std.proofs.Common.{◌∙◌, ap}
use Rattle.omf_records.specs.Values.{Rec}
use Rattle.omf_trimming.specs.Choice.{fixes_nothing}
use Rattle.omf_trimming.proofs.PastLaws.{none-held}
use Rattle.omf_trimming.proofs.choice.marked.fixes_nothing.Goals as goal

pub returns-in-Some : goal.returns-in-Some
returns-in-Some c = c.fix_nothing.ensures ∙ ap (λ (r : Rec). fixes_nothing r.contents) c.in-Some.ensures.some

pub returns-in-None : goal.returns-in-None
returns-in-None c = none-held c.args.record.now.contents c.in-None.ensures.none

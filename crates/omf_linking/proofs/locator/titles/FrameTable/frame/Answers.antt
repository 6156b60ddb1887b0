use Rattle.std.proofs.Common.{◌∙◌, ap, sym}
use Rattle.std.specs.Prelude.{option_and_then}
use Rattle.omf_linking.proofs.TitleLaws.{frame-of}
use Rattle.omf_linking.proofs.locator.titles.FrameTable.frame.Goals as goal

pub returns-in-Some : goal.returns-in-Some
returns-in-Some c = λ title ms gs t e table.
    ap (option_and_then (λ f. f)) (sym c.in-Some.is ∙ c.copied.ensures ∙ c.get.ensures.value) ∙ frame-of title ms gs t c.args.self.now.by_title c.args.text.now e table

pub returns-in-None : goal.returns-in-None
returns-in-None c = λ title ms gs t e table.
    ap (option_and_then (λ f. f)) (sym c.in-None.is ∙ c.copied.ensures ∙ c.get.ensures.value) ∙ frame-of title ms gs t c.args.self.now.by_title c.args.text.now e table

use Rattle.std.proofs.Common.{◌∙◌, ap, sym}
use Rattle.omf_linking.specs.Inner.Titling.{kept_at}
use Rattle.omf_linking.proofs.TitleLaws.{first-line, later-line}
use Rattle.omf_linking.proofs.locator.titles.FrameTable.add.Goals as goal

pub returns-in-Some : goal.returns-in-Some
returns-in-Some c = λ title ms gs j i m here own table.
    let old = c.args.self.now.by_title in
    later-line title ms gs j i m c.args.frame here old table c.args.text.items own _ (sym (c.copied.ensures ∙ c.get.ensures.value ∙ ap (kept_at old) c.as_slice.ensures.value) ∙ c.in-Some.is)

pub returns-in_ok-insert-in-None : goal.returns-in_ok-insert-in-None
returns-in_ok-insert-in-None c = λ title ms gs j i m here own table.
    let old = c.args.self.now.by_title in
    let none = sym (c.copied.ensures ∙ c.get.ensures.value ∙ ap (kept_at old) c.as_slice.ensures.value) ∙ c.in-None.is in
    first-line title ms gs j i m c.args.frame here old table c.insert.new.self c.args.text.items own none c.in_ok-insert-in-None.ensures.updates

use Rattle.omf_linking.specs.Locator.Items.{group_title, segment_title}
use Rattle.omf_linking.proofs.locator.titles.Titles.new.Goals as goal

pub returns : goal.returns
returns c = λ ms. record { segments_are = c.new.ensures segment_title ms; groups_are = c.new-2.ensures group_title ms }

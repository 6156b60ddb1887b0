use Rattle.omf_linking.proofs.TitleLaws.{no-frames}
use Rattle.omf_linking.proofs.locator.titles.FrameTable.new.Goals as goal

pub returns : goal.returns
returns c = λ title ms. no-frames title ms c.new.result c.new.ensures.empty

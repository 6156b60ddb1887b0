use Rattle.std.proofs.Common.{◌∙◌, ap}
use Rattle.omf_output.proofs.LocatedLaws.{walked}
use Rattle.omf_output.specs.Inner.Walked.{located_from}
use Rattle.omf_output.proofs.located.located_of.Goals as goal

pub returns : goal.returns
returns c = ap (located_from _) c.pieces_of.ensures.walked ∙ walked _

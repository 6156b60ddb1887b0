use Rattle.std.proofs.Common.{ap, ◌∙◌}
use Rattle.omf_check.specs.Module.{records_in}
use Rattle.omf_dump.proofs.NamingLaws.{left_of, without_places}
use Rattle.omf_dump.proofs.facts.Facts.records.Goals as goal

pub returns : goal.returns
returns c = ap left_of c.records.ensures.listed ∙ without_places 0 0 (records_in c.self.inside.«module».now.bytes) ∙ c.self.view_is

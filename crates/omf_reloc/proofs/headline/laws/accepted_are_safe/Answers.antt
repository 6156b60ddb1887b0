use Rattle.omf_reloc.proofs.HeadlineLaws.{accepted-safe}
use Rattle.omf_reloc.proofs.headline.laws.accepted_are_safe.Goals as goal

pub returns : goal.returns
returns c = accepted-safe

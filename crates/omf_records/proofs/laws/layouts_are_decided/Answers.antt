use Rattle.omf_records.specs.Inner.LawProofs.{decided}
use Rattle.omf_records.proofs.laws.layouts_are_decided.Goals as goal

pub returns : goal.returns
returns c = decided

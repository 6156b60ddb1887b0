use Rattle.omf_canon.proofs.StreamLaws.{streamed-canonical}
use Rattle.omf_canon.proofs.laws.walks_are_canonical.Goals as goal

pub returns : goal.returns
returns c = streamed-canonical

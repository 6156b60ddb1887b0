use Rattle.omf_reloc.proofs.CompleteLaws.{derived-complete}
use Rattle.omf_reloc.proofs.laws.derived_are_complete.Goals as goal

pub returns : goal.returns
returns c = derived-complete

use Rattle.omf_library.proofs.SearchLaws.{found_entry}
use Rattle.omf_library.proofs.laws.searches_find_entries.Goals as goal

pub returns : goal.returns
returns c = found_entry

use Rattle.omf_reloc.proofs.EarlierLaws.{give-references}
use Rattle.omf_reloc.proofs.laws.threads_give_references.Goals as goal

pub returns : goal.returns
returns c = give-references

use Rattle.omf_placement.proofs.LinkageLaws.{same-length}
use Rattle.omf_placement.proofs.several.linkage.fault_or_memory.Goals as goal

pub first_fault-requires-clause-placed : goal.first_fault-requires-clause-placed
first_fault-requires-clause-placed c = same-length c.args.modules.now c.args.places.now c.requires.placed

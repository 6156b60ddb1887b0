use Rattle.omf_trimming.proofs.TripleLaws.{instances-are-triples}
use Rattle.omf_trimming.proofs.laws.choice.instances_are_triples.Goals as goal

pub returns : goal.returns
returns c = instances-are-triples

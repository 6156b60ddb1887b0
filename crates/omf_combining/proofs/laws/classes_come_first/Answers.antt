use Rattle.omf_combining.proofs.ClassLaws.{classes-come-first}
use Rattle.omf_combining.proofs.laws.classes_come_first.Goals as goal

pub returns : goal.returns
returns c = classes-come-first

use Rattle.std.proofs.Common.{take}
use Rattle.omf_trimming.specs.Inner.Choosing.{AreFirsts}
use Rattle.omf_trimming.proofs.ChoiceAllLaws.{all_instances}
use Rattle.omf_trimming.proofs.ClashLaws.{AreClashing}
use Rattle.omf_trimming.proofs.choice.clashes.clashes.Given as goal

-- those of the modules so far, and the first instances of these
abbrev pub invariant-loop-number : goal.invariant-loop-number
invariant-loop-number l = record {
  so_far : AreClashing l.modules l.number l.found.items;
  firsts : AreFirsts l.firsts.by_name (all_instances (take l.number l.modules));
}

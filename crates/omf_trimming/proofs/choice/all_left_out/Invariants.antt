use Rattle.std.proofs.Common.{take}
use Rattle.std.specs.Prelude.{map}
use Rattle.omf_trimming.specs.Inner.Choosing.{AreFirsts}
use Rattle.omf_trimming.proofs.ChoiceAllLaws.{AreLeftOut, all_instances}
use Rattle.omf_trimming.proofs.choice.all_left_out.Given as goal

-- what is left out of the modules so far, and the first instances of these
abbrev pub invariant-loop-module : goal.invariant-loop-module
invariant-loop-module l = record {
  so_far : AreLeftOut l.modules l.module-index (map (λ gone. gone.items) l.all.items);
  firsts : AreFirsts l.firsts.by_name (all_instances (take l.module-index l.modules));
}

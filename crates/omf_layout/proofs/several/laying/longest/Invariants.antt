use Rattle.std.proofs.Common.{◌≡◌, drop}
use Rattle.std.specs.Prelude.{max}
use Rattle.omf_layout.specs.Several.Laying.{longest}
use Rattle.omf_layout.proofs.several.laying.longest.Given as goal

-- the longest so far, and of those that are left
abbrev pub invariant-loop-portion : goal.invariant-loop-portion
invariant-loop-portion l = max l.longest (longest (drop l.portion-index l.portions)) ≡ longest l.portions

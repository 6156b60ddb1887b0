use Rattle.std.proofs.Common.{◌≡◌, ◌++◌, drop}
use Rattle.omf_layout.specs.Several.Laying.{all_at}
use Rattle.omf_layout.proofs.several.laying.lay_at.Given as goal

-- those so far, and those that are left
abbrev pub invariant-loop-portion : goal.invariant-loop-portion
invariant-loop-portion l = l.lying.items ++ all_at (drop l.portion-index l.portions) l.place ≡ l.fn.lying.items ++ all_at l.portions l.place

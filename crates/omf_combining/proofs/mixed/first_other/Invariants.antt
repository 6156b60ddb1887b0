use Rattle.std.proofs.Common.{◌≡◌, drop}
use Rattle.std.specs.Prelude.{find}
use Rattle.omf_combining.specs.Mixed.{differs}
use Rattle.omf_combining.proofs.mixed.first_other.Given as goal

-- the first of those that are left is that of all
abbrev pub invariant-loop-other : goal.invariant-loop-other
invariant-loop-other l = find (differs l.first) (drop l.other-index l.others) ≡ find (differs l.first) l.others

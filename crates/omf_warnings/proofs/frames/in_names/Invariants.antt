use Rattle.std.proofs.Common.{◌≡◌, drop}
use Rattle.std.specs.Prelude.{map}
use Rattle.omf_warnings.specs.Frames.{split}
use Rattle.omf_warnings.specs.Wide.{first_some}
use Rattle.omf_warnings.proofs.frames.in_names.Given as goal

-- the first in the names that are left is that of all
abbrev pub invariant-loop-groups : goal.invariant-loop-groups
invariant-loop-groups l = first_some split (map (λ r. r.items) (drop l.groups-index l.names)) ≡ first_some split (map (λ r. r.items) l.names)

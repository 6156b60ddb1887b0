use Rattle.std.proofs.Common.{◌≡◌, drop}
use Rattle.omf_lib.specs.Find.{near_public}
use Rattle.omf_lib.specs.Members.{publics_seen}
use Rattle.omf_lib.proofs.finding.near_public.Given as goal

-- the first of the publics that are left is the first of all
abbrev pub invariant-loop-public : goal.invariant-loop-public
invariant-loop-public l = near_public (publics_seen (drop l.public-index l.publics)) l.name ≡ near_public (publics_seen l.publics) l.name

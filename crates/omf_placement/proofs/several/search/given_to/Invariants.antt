use Rattle.std.proofs.Common.{◌≡◌, drop}
use Rattle.omf_placement.specs.Inner.Derived.{given_place}
use Rattle.omf_placement.proofs.several.search.given_to.Given as goal

-- the remaining entries give the place
abbrev pub invariant-loop-entry : goal.invariant-loop-entry
invariant-loop-entry l = given_place (drop l.entry-index l.given) l.«module» l.external ≡ given_place l.given l.«module» l.external

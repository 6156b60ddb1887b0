use Rattle.std.proofs.Common.{◌+◌, List, Bool}
use Rattle.omf_records.specs.Values.{Rec}
use Rattle.omf_placement.specs.declared.several.given.Given.{Given}
use Rattle.omf_placement.specs.Derive.{PlacedPublic}
use Rattle.omf_placement.specs.Inner.GivenTable.{IsGivenTable}
use Rattle.omf_placement.specs.Inner.Linkage.{AreFound}
use Rattle.omf_placement.proofs.LinkageLaws.{IsSoFar}
use Rattle.omf_placement.proofs.several.linkage.linked_places.Given as goal

-- the externals so far have these places
abbrev pub invariant-loop-before : goal.invariant-loop-before
invariant-loop-before l = (among : Bool → List PlacedPublic) (entries : List Given) (m : List Rec) → IsGivenTable l.given.by_external entries → AreFound l.places l.links among m → IsSoFar among entries l.number m l.found.items (l.before + 1)

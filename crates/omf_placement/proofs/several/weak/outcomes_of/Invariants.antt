use Rattle.std.proofs.Common.{◌≡◌, ◌+◌, ◌++◌, ◌≤◌, length, List, Bool, true, false}
use Rattle.omf_check.specs.Module.{records_in}
use Rattle.omf_check.specs.Tables.{externals}
use Rattle.omf_check.specs.WellFormed.{recs}
use Rattle.omf_placement.specs.declared.several.given.Given.{Given}
use Rattle.omf_placement.specs.Derive.{PlacedPublic}
use Rattle.omf_placement.specs.Inner.Derived.{external_places}
use Rattle.omf_placement.specs.Inner.GivenTable.{IsGivenTable}
use Rattle.omf_placement.specs.Inner.PublicTable.{IsTable}
use Rattle.omf_placement.proofs.LinkageLaws.{outcomes_from}
use Rattle.omf_placement.proofs.several.weak.outcomes_of.Given as goal

-- the outcomes of the externals so far, and of the others
abbrev pub invariant-loop-i : goal.invariant-loop-i
invariant-loop-i l = let m = recs (records_in l.module.bytes) in record {
  start : 1 ≤ l.i;
  end : l.i-end ≡ length (externals m) + 1;
  so_far : (among : Bool → List PlacedPublic) (entries : List Given) → IsTable l.all.by_name (among false) → IsTable l.own.by_name (among true) → IsGivenTable l.given.by_external entries
      → l.outcomes.items ++ outcomes_from among entries l.number m l.i ≡ external_places among entries l.number m;
}

use Rattle.std.proofs.Common.{◌≡◌, ◌+◌, ◌++◌, ◌≤◌, length, List, Bool, true, false}
use Rattle.std.specs.Prelude.{IfSome}
use Rattle.omf_check.specs.Module.{records_in}
use Rattle.omf_check.specs.Tables.{externals}
use Rattle.omf_check.specs.WellFormed.{recs}
use Rattle.omf_placement.specs.Inner.Linkage.{IsSourceTable, NamedSource, definers, sources}
use Rattle.omf_placement.proofs.LinkedLaws.{definers_from}
use Rattle.omf_placement.proofs.several.linkage.links_of.Given as goal

-- the publics of the externals so far, and of the others
abbrev pub invariant-loop-i : goal.invariant-loop-i
invariant-loop-i l = let m = recs (records_in l.module.bytes) in record {
  start : 1 ≤ l.i;
  end : l.i-end ≡ length (externals m) + 1;
  own : IfSome l.own (λ t. IsSourceTable t (sources true l.number m));
  so_far : (among : Bool → List NamedSource) → IsSourceTable l.all (among false) → among true ≡ sources true l.number m → l.of_external.items ++ definers_from among m l.i ≡ definers among m;
}

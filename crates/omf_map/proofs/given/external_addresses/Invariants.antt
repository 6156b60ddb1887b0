use Rattle.std.proofs.Common.{◌≡◌, ◌+◌, ◌++◌, Bool, List, drop, false, length, map, true}
use Rattle.std.specs.List.{enumerate_from}
use Rattle.omf_check.specs.Module.{records_in}
use Rattle.omf_check.specs.Tables.{externals}
use Rattle.omf_check.specs.WellFormed.{recs}
use Rattle.omf_placement.specs.Derive.{named_externals}
use Rattle.omf_map.specs.Inner.PublicAddresses.{IsTable}
use Rattle.omf_map.specs.Addresses.{NamedAddress, external_given, externals_given}
use Rattle.omf_map.proofs.given.external_addresses.Given as goal

-- the addresses so far, and those of the externals that are left
abbrev pub invariant-loop-before : goal.invariant-loop-before
invariant-loop-before l = let m = recs (records_in l.«module».bytes) in record {
  end : l.before-end ≡ length (externals m);
  addresses : (among : Bool → List NamedAddress) → IsTable l.all.by_name (among false) → IsTable l.own.by_name (among true)
      → l.addresses.items ++ map (external_given among l.given) (enumerate_from (l.before + 1) (drop l.before (named_externals m))) ≡ externals_given among (m, l.given);
}

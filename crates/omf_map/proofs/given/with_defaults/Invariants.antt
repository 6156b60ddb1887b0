use Rattle.std.proofs.Common.{◌≡◌, Bool, List, drop, false, true}
use Rattle.omf_check.specs.Module.{recs_of}
use Rattle.omf_linking.specs.Locator.Sparse.{Sparse}
use Rattle.omf_placement.specs.Weak.{weak_pairs}
use Rattle.omf_records.specs.Values.{Rec}
use Rattle.omf_map.specs.Inner.PublicAddresses.{IsTable}
use Rattle.omf_map.specs.Addresses.{NamedAddress, with_defaults}
use Rattle.omf_map.proofs.given.with_defaults.Given as goal

-- the addresses so far, and the pairs that are left
abbrev pub invariant-loop-pair : goal.invariant-loop-pair
invariant-loop-pair l = (among : Bool → List NamedAddress) → IsTable l.all.by_name (among false) → IsTable l.own.by_name (among true)
    → let m : List Rec × Sparse = (recs_of l.«module».bytes, l.given) in with_defaults among m l.first.items (drop l.pair-index l.pair-items) l.addresses.items ≡ with_defaults among m l.first.items (weak_pairs (recs_of l.«module».bytes)) l.first.items

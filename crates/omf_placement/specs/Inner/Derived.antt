-- The derived placements or the first fault, computed.
use Rattle.std.specs.Prelude.{ℕ, ◌^◌, List, [], ◌∷◌, map, flat_map, filter_map, find, Bool, Option, Some, None, option_map, Result, Ok, Err, bytes_eq, ◌==◌, ◌&&◌, nat_lt, if◌then◌else◌}
use Rattle.std.specs.List.{enumerate_from}
use Rattle.omf_records.specs.Values.{Rec}
use Rattle.omf_placement.specs.declared.several.fault.DeriveFault.{DeriveFault}
use Rattle.omf_placement.specs.declared.several.fault.DeriveFault.TheVariants as fault
use Rattle.omf_placement.specs.declared.several.given.Given.{Given}
use Rattle.omf_placement.specs.declared.frame.Placed.{Placed}
use Rattle.omf_placement.specs.Placement.{Places}
use Rattle.omf_placement.specs.Derive.{PlacedModule, PlacedPublic, seen_publics, named_externals, place_in}

-- The place of the first entry for external i of module j.
abbrev pub given_place : List Given → ℕ → ℕ → Option Placed
given_place given j i = option_map place_in (find (λ g. (g.module == j) && (g.external == i)) given)

-- The place of a public, if it has this name.
abbrev pub of_name : List ℕ → PlacedPublic → Option Placed
of_name name p = if bytes_eq name p.name then Some p.place else None

-- The only place, if its address is below 2^32; else the fault of external i of module j.
abbrev pub one_public : ℕ → ℕ → List Placed → Result Placed DeriveFault
one_public j i [] = Err (fault.Undefined j i)
one_public j i (p ∷ []) = if nat_lt p.address (2 ^ 32) then Ok p else Err (fault.TooHigh j i)
one_public j i (p ∷ q ∷ ps) = Err (fault.Twice j i)

abbrev pub given_or : Option Placed → Result Placed DeriveFault → Result Placed DeriveFault
given_or (Some p) r = Ok p
given_or None r = r

-- The place of external i of module j, with this name, or its fault.
abbrev pub external_place : List PlacedPublic → List Given → ℕ → ℕ → List ℕ → Result Placed DeriveFault
external_place among given j i name = given_or (given_place given j i) (one_public j i (filter_map (of_name name) among))

-- The place or the fault of each external of module j, in order.
abbrev pub external_places : (Bool → List PlacedPublic) → List Given → ℕ → List Rec → List (Result Placed DeriveFault)
external_places among given j m = map (λ e. external_place (among e.1.1) given j e.0 e.1.0) (enumerate_from 1 (named_externals m))

abbrev pub ok_of : Result Placed DeriveFault → Option Placed
ok_of (Ok p) = Some p
ok_of (Err e) = None

abbrev pub err_of : Result Placed DeriveFault → Option DeriveFault
err_of (Ok p) = None
err_of (Err e) = Some e

-- Every fault, by module and then by external.
abbrev pub derive_faults : List PlacedModule → List Given → List DeriveFault
derive_faults ms given = flat_map (λ m. filter_map err_of (external_places (seen_publics ms m.1) given m.0 m.1.0)) (enumerate_from 0 ms)

-- The places of the externals of a module; and its derived placement, with the segments and groups of its placement.
abbrev pub resolved_in : List PlacedModule → List Given → ℕ × PlacedModule → List Placed
resolved_in ms given m = filter_map ok_of (external_places (seen_publics ms m.1) given m.0 m.1.0)

abbrev pub with_externals : List PlacedModule → List Given → ℕ × PlacedModule → Places
with_externals ms given m = record m.1.1 { externals = resolved_in ms given m }

-- This if there is no fault, else the first fault.
abbrev pub unless_fault : {A : Type 0} → List DeriveFault → A → Result A DeriveFault
unless_fault [] a = Ok a
unless_fault (e ∷ es) a = Err e

-- The places of the externals of all modules, and their placements.
abbrev pub resolved : List PlacedModule → List Given → Result (List (List Placed)) DeriveFault
resolved ms given = unless_fault (derive_faults ms given) (map (resolved_in ms given) (enumerate_from 0 ms))

abbrev pub derived : List PlacedModule → List Given → Result (List Places) DeriveFault
derived ms given = unless_fault (derive_faults ms given) (map (with_externals ms given) (enumerate_from 0 ms))

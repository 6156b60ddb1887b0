-- A table of publics by name. Its entry for a name sums up the publics with that name.
use Rattle.std.specs.Prelude.{◌≡◌, ℕ, List, [], ◌∷◌, ◌++◌, filter_map, Option, Some, None, bytes_eq, if◌then◌else◌}
use Rattle.std.specs.BTreeMap.{BTreeMap, get_by}
use Rattle.omf_names.specs.Names.{name_cmp}
use denote.Ref.{Bor}
use Rattle.omf_placement.specs.declared.several.publics.Found.{Found}
use Rattle.omf_placement.specs.declared.several.publics.Found.TheVariants.{One, Several}
use Rattle.omf_records.specs.Values.{At, PublicItem}
use Rattle.omf_placement.specs.Derive.{PlacedPublic, publics_at}
use Rattle.omf_placement.specs.Inner.Derived.{of_name}
use Rattle.omf_placement.specs.declared.frame.Placed.{Placed}

-- No public, the only one, or several.
abbrev pub summed : List Placed → Option Found
summed [] = None
summed (p ∷ []) = Some (One p.address p.frame)
summed (p ∷ q ∷ ps) = Some Several

-- The entry after one more public at this place.
abbrev pub found_after : Placed → Option Found → Found
found_after p None = One p.address p.frame
found_after p (Some f) = Several

-- A table holds these publics.
abbrev pub IsTable : BTreeMap (Bor (List ℕ)) Found → List PlacedPublic → Type 0
IsTable m among = (name : List ℕ) → get_by (λ k. name_cmp name k.now) m ≡ summed (filter_map (of_name name) among)

-- The second table holds these publics in addition to those of the first.
abbrev pub HasMore : BTreeMap (Bor (List ℕ)) Found → BTreeMap (Bor (List ℕ)) Found → List PlacedPublic → Type 0
HasMore m n more = (among : List PlacedPublic) → IsTable m among → IsTable n (among ++ more)

-- What is found for a name after one more public, and after these.
abbrev pub found_with : List ℕ → Option Found → PlacedPublic → Option Found
found_with name found p = if bytes_eq name p.name then Some (found_after p.place found) else found

abbrev pub found_over : List ℕ → Option Found → List PlacedPublic → Option Found
found_over name found [] = found
found_over name found (p ∷ ps) = found_over name (found_with name found p) ps

-- What is found for a name among these publics.
abbrev pub found_among : List ℕ → List PlacedPublic → Option Found
found_among name ps = found_over name None ps

-- The publics of a base with their items, if there is one.
abbrev pub based : Option (Placed × List (At PublicItem)) → List PlacedPublic
based None = []
based (Some b) = publics_at b.0 b.1

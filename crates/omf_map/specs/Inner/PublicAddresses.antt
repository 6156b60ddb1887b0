-- A table of the addresses of publics by name. Its entry for a name sums up the publics of the name.
use Rattle.std.specs.Prelude.{◌≡◌, ℕ, List, [], ◌∷◌, ◌++◌, filter_map, Option, Some, None}
use Rattle.std.specs.BTreeMap.{BTreeMap, get_by}
use denote.Ref.{Bor}
use Rattle.omf_names.specs.Names.{name_cmp}
use Rattle.omf_map.specs.Addresses.{NamedAddress, of_name, publics_at}
use Rattle.omf_records.specs.Values.{At, PublicItem}

-- No public; the address of the only one, if it has one; or several publics.
abbrev pub summed : List (Option ℕ) → Option (Option ℕ)
summed [] = None
summed (a ∷ []) = Some a
summed (a ∷ b ∷ more) = Some None

-- The entry after one more public with this address.
abbrev pub address_after : Option ℕ → Option (Option ℕ) → Option ℕ
address_after a None = a
address_after a (Some b) = None

-- A table has these publics; it has these in addition to those of another.
abbrev pub Table : Type 0
Table = BTreeMap (Bor (List ℕ)) (Option ℕ)

abbrev pub IsTable : Table → List NamedAddress → Type 0
IsTable m among = (name : List ℕ) → get_by (λ k. name_cmp name k.now) m ≡ summed (filter_map (of_name name) among)

abbrev pub HasMore : Table → Table → List NamedAddress → Type 0
HasMore m n more = (among : List NamedAddress) → IsTable m among → IsTable n (among ++ more)

-- The publics of a base, if there is a record of publics.
abbrev pub based : Option (Option ℕ × List (At PublicItem)) → List NamedAddress
based None = []
based (Some b) = publics_at b.0 b.1

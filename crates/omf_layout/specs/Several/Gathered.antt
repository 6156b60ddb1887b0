-- Values grouped by name, in the order of each name's first value.
use Rattle.std.specs.Prelude.{◌≡◌, ℕ, zero, suc, List, [], ◌∷◌, ◌++◌, map, filter_map, not, Option, Some, None, option_map, bytes_eq, if◌then◌else◌}
use Rattle.std.specs.List.{filter}
use Rattle.std.specs.BTreeMap.{BTreeMap, get_by}
use denote.Ref.{Bor}
use Rattle.omf_names.specs.Names.{name_cmp}

-- The names of a list, each once, in the order of first appearance.
abbrev pub distinct : List (List ℕ) → List (List ℕ)
distinct [] = []
distinct (x ∷ xs) = x ∷ filter (λ y. not (bytes_eq x y)) (distinct xs)

-- The values of a name, in their order.
abbrev pub value_of : {A : Type 0} → List ℕ → List ℕ × A → Option A
value_of name x = if bytes_eq name x.0 then Some x.1 else None

abbrev pub of_name : {A : Type 0} → List (List ℕ × A) → List ℕ → List A
of_name xs name = filter_map (value_of name) xs

-- For each name, in that order, all its values.
abbrev pub names_in : {A : Type 0} → List (List ℕ × A) → List (List ℕ)
names_in xs = map (λ x. x.0) xs

abbrev pub gathered : {A : Type 0} → List (List ℕ × A) → List (List A)
gathered xs = map (of_name xs) (distinct (names_in xs))

-- The position of a name in a list.
abbrev pub place_of : List ℕ → List (List ℕ) → Option ℕ
place_of name [] = None
place_of name (x ∷ xs) = if bytes_eq name x then Some 0 else option_map suc (place_of name xs)

-- One more value in the list at a position.
abbrev pub with_value : {A : Type 0} → ℕ → A → List (List A) → List (List A)
with_value i v [] = []
with_value zero v (r ∷ rs) = (r ++ v ∷ []) ∷ rs
with_value (suc i) v (r ∷ rs) = r ∷ with_value i v rs

-- A name as the code has it, and its value.
abbrev pub named : {A : Type 0} → Bor (List ℕ) × A → List ℕ × A
named x = (x.0.now, x.1)

-- A table has the position of each of these names.
abbrev pub IsTable : BTreeMap (Bor (List ℕ)) ℕ → List (List ℕ) → Type 0
IsTable m names = (name : List ℕ) → get_by (λ k. name_cmp name k.now) m ≡ place_of name names

-- A table of these values' names, and the values of each.
pub record AreGathered {A : Type 0} (m : BTreeMap (Bor (List ℕ)) ℕ) (runs : List (List A)) (xs : List (List ℕ × A)) : Type 0 where
  pub found : IsTable m (distinct (names_in xs))
  pub all : runs ≡ gathered xs

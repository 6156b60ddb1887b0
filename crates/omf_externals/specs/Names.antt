-- The names that publics define, and those that an external sees (TIS OMF 1.1, "PUBDEF", "LPUBDEF").
use Rattle.std.specs.Prelude.{◌≡◌, ◌≤◌, ℕ, suc, List, [], ◌∷◌, ◌++◌, map, flat_map, Bool, true, false, ◌||◌, bytes_eq, is_some, if◌then◌else◌}
use Rattle.std.specs.BTreeMap.{get_by}
use Rattle.omf_names.specs.Names.{name_cmp}
use Rattle.omf_frame.specs.Types.{is_local}
use Rattle.omf_records.specs.Values.{At, Rec, Contents, Publics, PublicItem}
use Rattle.omf_externals.specs.declared.names.NameTable.{NameTable}

-- The names that a record defines.
abbrev pub names_of : List (At PublicItem) → List (List ℕ)
names_of items = map (λ q. q.item.name) items

abbrev pub names_in : Contents → List (List ℕ)
names_in (Publics p) = names_of p.items
names_in _ = []

-- The local ones, which an LPUBDEF defines, or the others, which a PUBDEF does.
abbrev pub names_asked : Bool → ℕ → Contents → List (List ℕ)
names_asked true kind c = if is_local kind then names_in c else []
names_asked false kind c = if is_local kind then [] else names_in c

-- Those of a module, and those of all modules.
abbrev pub public_names : Bool → List Rec → List (List ℕ)
public_names local m = flat_map (λ r. names_asked local r.kind r.contents) m

abbrev pub all_names : List (List Rec) → List (List ℕ)
all_names ms = flat_map (public_names false) ms

-- The names that an external sees: a local one those of the local publics of its module, any other those of the publics of all modules.
abbrev pub seen_names : List (List Rec) → List Rec → Bool → List (List ℕ)
seen_names ms m local = if local then public_names true m else all_names ms

-- A name is in a list.
abbrev pub has_name : List (List ℕ) → List ℕ → Bool
has_name [] name = false
has_name (x ∷ xs) name = bytes_eq x name || has_name xs name

-- How often a list has a name; and no name twice.
abbrev pub count_of : List (List ℕ) → List ℕ → ℕ
count_of [] name = 0
count_of (x ∷ xs) name = if bytes_eq x name then suc (count_of xs name) else count_of xs name

abbrev pub AreApart : List (List ℕ) → Type 0
AreApart names = (name : List ℕ) → count_of names name ≤ 1

-- A table has these names, and knows whether one of them was added twice.
pub record IsNameTable (t : NameTable) (names : List (List ℕ)) : Type 0 where
  pub found : (name : List ℕ) → is_some (get_by (λ k. name_cmp name k.now) t.names) ≡ has_name names name
  pub apart : t.repeats ≡ false → AreApart names

-- A table has these names in addition to those of another.
abbrev pub HasMore : NameTable → NameTable → List (List ℕ) → Type 0
HasMore t u more = (names : List (List ℕ)) → IsNameTable t names → IsNameTable u (names ++ more)

-- The keys by which the names of members are looked up: they are equal where a page and a name are.
use Rattle.std.specs.Prelude.{◌≡◌, ℕ, ◌/◌, ◌%◌, nat_lt, if◌then◌else◌, Bool, List, [], ◌∷◌, flat_map, map, bytes_eq, Vec}
use Rattle.std.specs.BTreeSet.{BTreeSet, contains_by}
use Rattle.std.specs.Cmp.Lexicographic.{slice_cmp}
use Rattle.std.specs.Global.{Global}
use Rattle.std.specs.List.{list_any}
use Rattle.std.specs.Ordering.{nat_cmp}
use Rattle.omf_library.specs.Dictionary.{folded}
use Rattle.omf_lib.specs.Defining.{Definer}

-- The key of a page: the two bytes of its number; and of a name at a page: these, 0, and the name's characters as they are compared.
abbrev pub page_key : ℕ → List ℕ
page_key page = page % 256 ∷ page / 256 ∷ []

abbrev pub name_key : Bool → ℕ → List ℕ → List ℕ
name_key sensitive page name = page % 256 ∷ page / 256 ∷ 0 ∷ map (folded sensitive) name

-- The keys of a member. No entry can have a page after 65535.
abbrev pub keys_of : Bool → Definer → List (List ℕ)
keys_of sensitive d = if nat_lt d.page 65536 then page_key d.page ∷ map (λ n. name_key sensitive d.page n.name) d.names else []

abbrev pub all_keys : Bool → List Definer → List (List ℕ)
all_keys sensitive ds = flat_map (keys_of sensitive) ds

abbrev pub has_key : List (List ℕ) → List ℕ → Bool
has_key keys key = list_any (λ k. bytes_eq k key) keys

-- A set has exactly these keys.
abbrev pub IsKeySet : BTreeSet (Vec ℕ Global) → List (List ℕ) → Type 0
IsKeySet s keys = (key : Vec ℕ Global) → contains_by (λ k. slice_cmp nat_cmp key.items k.items) s ≡ has_key keys key.items

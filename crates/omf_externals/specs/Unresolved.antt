-- The externals for which no public or more than one is found, as text: a line for each name (a rule of this profile).
use Rattle.std.specs.Prelude.{◌≡◌, ℕ, ◌+◌, ◌-◌, List, [], ◌∷◌, ◌++◌, length, map, filter, flat_map, set, Bool, true, false, not, Option, Some, None, Ok, option_and_then, option_map, slice_get, unwrap_or, bytes_eq, codes, decimal, ◌==◌, ◌&&◌, ◌||◌, if◌then◌else◌}
use Rattle.std.specs.BTreeMap.{BTreeMap, get_by}
use Rattle.std.specs.Cmp.Lexicographic.{slice_cmp}
use Rattle.std.specs.List.{enumerate_from}
use Rattle.std.specs.Ordering.{nat_cmp}
use Rattle.std.specs.Global.{Vec}
use denote.Ref.{Bor}
use Rattle.omf_check.specs.Tables.{entry}
use Rattle.omf_placement.specs.Derive.{named_externals}
use Rattle.omf_placement.specs.Quoted.{quoted}
use Rattle.omf_placement.specs.Weak.{weak_pairs}
use Rattle.omf_placement.specs.declared.frame.Placed.{Placed}
use Rattle.omf_placement.specs.declared.several.pairs.WeakPair.{WeakPair}
use Rattle.omf_records.specs.Values.{Rec}
use Rattle.omf_linking.specs.Locator.Sparse.{Sparse, sparse}
use Rattle.omf_externals.specs.Names.{public_names}
use Rattle.omf_externals.specs.declared.by_name.Spot.{Spot}

-- ---- externals and publics by name

-- An external or a public: its name, and where it is.
abbrev pub Row : Type 0
Row = List ℕ × Spot

-- Those of a name, in order.
abbrev pub spots_of : List Row → List ℕ → List Spot
spots_of [] name = []
spots_of (r ∷ rs) name = if bytes_eq r.0 name then r.1 ∷ spots_of rs name else spots_of rs name

-- A table has these; it has these in addition to those of another.
abbrev pub Table : Type 0
Table = BTreeMap (Bor (List ℕ)) (Vec Spot)

abbrev pub items_or : Option (Vec Spot) → List Spot
items_or None = []
items_or (Some v) = v.items

abbrev pub IsByName : Table → List Row → Type 0
IsByName m rows = (name : List ℕ) → items_or (get_by (λ k. slice_cmp nat_cmp name k.now) m) ≡ spots_of rows name

abbrev pub HasMore : Table → Table → List Row → Type 0
HasMore m n more = (rows : List Row) → IsByName m rows → IsByName n (rows ++ more)

-- Publics of module j with these names.
abbrev pub spot : ℕ → ℕ → Spot
spot j i = record { «module» = j; external = i }

abbrev pub rows_in : ℕ → List (List ℕ) → List Row
rows_in j names = map (λ n. (n, spot j 0)) names

-- The publics of all modules that are not local.
abbrev pub module_rows : ℕ × List Rec → List Row
module_rows m = rows_in m.0 (public_names false m.1)

abbrev pub all_rows : List (List Rec) → List Row
all_rows ms = flat_map module_rows (enumerate_from 0 ms)

-- External i of module j has a place by hand.
abbrev pub has_place : Option (Option Placed) → Bool
has_place (Some (Some p)) = true
has_place _ = false

abbrev pub given_to : Option Sparse → ℕ → Bool
given_to None i = false
given_to (Some s) i = has_place (entry s.externals i)

abbrev pub is_given : List Sparse → ℕ → ℕ → Bool
is_given by_hand j i = given_to (slice_get by_hand j) i

-- ---- externals that need no public

-- Marks of the externals of a module with a place by hand.
abbrev pub given_marks : List Sparse → ℕ × List Rec → List Bool
given_marks by_hand m = map (λ e. is_given by_hand m.0 e.0) (enumerate_from 1 (named_externals m.1))

-- How many publics an external sees: a local one among the local publics of its module, any other among those of all modules that are not local.
abbrev pub seen_count : (Bool → List Row) → List Rec → ℕ → Option ℕ
seen_count among m i = option_map (λ e. length (spots_of (among e.1) e.0)) (entry (named_externals m) i)

-- A pair of a weak external and its default serves, if no public has the name of the external, and the default has a place: by hand, or the one public of its name.
abbrev pub is_count : ℕ → Option ℕ → Bool
is_count n None = false
is_count n (Some k) = k == n

abbrev pub serves : (Bool → List Row) → List Bool → List Rec → WeakPair → Bool
serves among given m p = is_count 0 (seen_count among m p.weak) && (unwrap_or (entry given p.substitute) false || is_count 1 (seen_count among m p.substitute))

-- The pairs of a module that serve.
abbrev pub rows_seen : List Row → ℕ × List Rec → Bool → List Row
rows_seen publics m local = if local then rows_in m.0 (public_names true m.1) else publics

abbrev pub serving : List Row → List Sparse → ℕ × List Rec → List WeakPair
serving publics by_hand m = filter (serves (rows_seen publics m) (given_marks by_hand m) m.1) (weak_pairs m.1)

-- Marks, with those of the weak externals of these pairs.
abbrev pub with_marks : List WeakPair → List Bool → List Bool
with_marks [] marks = marks
with_marks (p ∷ ps) marks = with_marks ps (set marks (p.weak - 1) true)

-- Marks of the externals of a module that need no public: those with a place by hand, and weak ones that their default serves.
abbrev pub settled_in : List Row → List Sparse → ℕ × List Rec → List Bool
settled_in publics by_hand m = with_marks (serving publics by_hand m) (given_marks by_hand m)

abbrev pub all_settled : List (List Rec) → List Sparse → List (List Bool)
all_settled ms by_hand = map (settled_in (all_rows ms) by_hand) (enumerate_from 0 ms)

-- External i of module j needs no public.
abbrev pub is_settled : List (List Bool) → ℕ → ℕ → Bool
is_settled settled j i = unwrap_or (option_and_then (λ marks. entry marks i) (slice_get settled j)) false

-- The other externals of a module: the local ones, or those that are not local.
abbrev pub is_other : Bool → Bool → Bool
is_other true local = not local
is_other false local = local

abbrev pub asked_row : Bool → List (List Bool) → ℕ → ℕ × (List ℕ × Bool) → List Row
asked_row local settled j e = if is_other local e.1.1 then [] else if is_settled settled j e.0 then [] else (e.1.0, spot j e.0) ∷ []

abbrev pub asked_rows : Bool → List (List Bool) → ℕ × List Rec → List Row
asked_rows local settled m = flat_map (asked_row local settled m.0) (enumerate_from 1 (named_externals m.1))

-- Those of all modules that are not local.
abbrev pub all_asked : List (List Bool) → List (List Rec) → List Row
all_asked settled ms = flat_map (asked_rows false settled) (enumerate_from 0 ms)

-- ---- the lines

-- What a module is called: its label, or if it has none its number from 1.
abbrev pub label_of : List (List ℕ) → ℕ → List ℕ
label_of labels j = unwrap_or (slice_get labels j) (codes "module " ++ decimal (j + 1))

-- The modules of externals or publics, with a comma between each two; a module that has several in a row is named once.

abbrev pub after : Option ℕ → List ℕ → List ℕ
after None label = label
after (Some last) label = codes ", " ++ label

abbrev pub is_last : Option ℕ → ℕ → Bool
is_last None j = false
is_last (Some last) j = last == j

abbrev pub next_text : List (List ℕ) → Option ℕ → ℕ → List ℕ
next_text labels last j = if is_last last j then [] else after last (label_of labels j)

abbrev pub modules_text : List (List ℕ) → Option ℕ → List Spot → List ℕ
modules_text labels last [] = []
modules_text labels last (s ∷ ss) = next_text labels last s.«module» ++ modules_text labels (Some s.«module») ss

-- What is wrong with a name, the name, and the modules.
abbrev pub name_line : List (List ℕ) → List ℕ → List ℕ → List Spot → List ℕ
name_line labels what name ss = what ++ 32 ∷ quoted name ++ codes ": " ++ modules_text labels None ss ++ 10 ∷ []

-- The line of a name by the publics that it finds: none, then the modules that ask for it; or two or more, then their modules.
abbrev pub found_text : List (List ℕ) → List ℕ → List Spot → List Spot → List ℕ
found_text labels name [] askers = name_line labels (codes "undefined") name askers
found_text labels name (p ∷ []) askers = []
found_text labels name (p ∷ q ∷ ps) askers = name_line labels (codes "twice") name (p ∷ q ∷ ps)

-- An external is the first of its name.
abbrev pub is_same : Spot → Spot → Bool
is_same t s = (t.«module» == s.«module») && (t.external == s.external)

abbrev pub is_spot : Option Spot → Spot → Bool
is_spot None s = false
is_spot (Some t) s = is_same t s

abbrev pub is_first : List Spot → Spot → Bool
is_first ss s = is_spot (slice_get ss 0) s

-- The text of an external that looks among these publics, as all of these do: its name has a line at the first that asks for it.
abbrev pub asked_text : List (List ℕ) → List Row → List Row → List ℕ → Spot → List ℕ
asked_text labels publics asks name s = if is_first (spots_of asks name) s then found_text labels name (spots_of publics name) (spots_of asks name) else []

-- A local one looks among the local publics of its module, any other among those of all modules that are not local.
abbrev pub named_text : List (List ℕ) → List Row → List Row → List Row → List Row → List ℕ → Bool → Spot → List ℕ
named_text labels publics asks own own_asks name true s = asked_text labels own own_asks name s
named_text labels publics asks own own_asks name false s = asked_text labels publics asks name s

abbrev pub external_text : List (List ℕ) → List (List Bool) → List Row → List Row → List Row → List Row → ℕ → ℕ × (List ℕ × Bool) → List ℕ
external_text labels settled publics asks own own_asks j e = if is_settled settled j e.0 then [] else named_text labels publics asks own own_asks e.1.0 e.1.1 (spot j e.0)

abbrev pub module_text : List (List ℕ) → List (List Bool) → List Row → List Row → ℕ × List Rec → List ℕ
module_text labels settled publics asks m =
    flat_map (external_text labels settled publics asks (rows_in m.0 (public_names true m.1)) (asked_rows true settled m) m.0) (enumerate_from 1 (named_externals m.1))

-- The lines of modules, by which of their externals need no public.
abbrev pub settled_text : List (List ℕ) → List (List Rec) → List (List Bool) → List ℕ
settled_text labels ms settled = flat_map (module_text labels settled (all_rows ms) (all_asked settled ms)) (enumerate_from 0 ms)

-- The lines of modules, by what their externals are given by hand.
abbrev pub unresolved_text : List (List ℕ) → List (List Rec) → List Sparse → List ℕ
unresolved_text labels ms by_hand = settled_text labels ms (all_settled ms by_hand)

-- The lines of modules at the placements of a link text. Modules are named by these labels.
abbrev pub AreLines : List (List ℕ) → List (List Rec) → List ℕ → List ℕ → Type 0
AreLines labels ms text lines = (by_hand : List Sparse) × (sparse ms text ≡ Ok by_hand) × (lines ≡ unresolved_text labels ms by_hand)

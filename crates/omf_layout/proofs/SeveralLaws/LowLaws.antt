-- The lowest members of groups of one name, group by group.
use Rattle.std.proofs.Common.{◌≡◌, ℕ, zero, suc, ◌+◌, ◌<◌, ◌≤◌, List, [], ◌∷◌, ◌++◌, length, drop, get_or, refl, sym, ap, ap₂, ◌∙◌, subst, inl, inr, append-nil, append_assoc, arith, Bor, Vec, Global}
use Rattle.std.proofs.Math.Seq.{drop-nil}
use Rattle.std.specs.Prelude.{map, zip, filter_map, Option, Some, None, bytes_eq}
use Rattle.std.specs.List.{cons_option}
use Rattle.std.specs.BTreeMap.{BTreeMap, get_by, is_at}
use Rattle.std.specs.Map.{lookup}
use Rattle.std.proofs.lemmas.Bool.{cond-true, cond-false, cases_Bool}
use Rattle.std.proofs.lemmas.Option.{slice_get-get_or}
use Rattle.omf_names.specs.Names.{name_cmp}
use Rattle.omf_names.proofs.NameTables.{IsUpdated}
use Rattle.omf_records.specs.Values.{Rec, GroupItem}
use Rattle.omf_check.specs.Module.{Module, records_in, typed_modules}
use Rattle.omf_check.specs.Tables.{groups, entry}
use Rattle.omf_check.specs.WellFormed.{recs}
use Rattle.omf_placement.specs.declared.frame.Placed.{Placed}
use Rattle.omf_placement.specs.Inner.Lowest.{lower_than}
use Rattle.omf_placement.specs.Placement.{lowest}
use Rattle.omf_placement.proofs.ListLaws.{entry-at, next-at}
use Rattle.omf_layout.specs.Several.Gathered.{of_name}
use Rattle.std.specs.List.{enumerate_from}
use Rattle.omf_layout.specs.Several.Laying.{Lying}
use Rattle.omf_layout.specs.Several.Placing.{HasMore, IsLowTable, low_of, segments_in}
use Rattle.omf_layout.specs.Several.Portions.{Named}
use Rattle.omf_layout.proofs.SeveralLaws.GatherLaws.{Name, same, back, of-this, of-other}
use Rattle.omf_placement.proofs.LowerLaws.{lowest-more}

abbrev pub Map : Type 0
Map = BTreeMap (Bor (List ℕ)) Placed

abbrev pub low_at : Map → Name → Option Placed
low_at m name = get_by (λ k. name_cmp name k.now) m

-- One more group.
pub low-more : (m n : Map) (x : Name) (p q : Placed) → q ≡ lower_than (low_at m x) p → IsUpdated x m n (Some q)
    → HasMore m n ((x, p) ∷ [])
low-more m n x p q e u ls h name = elim (cases_Bool (bytes_eq x name)) [
  | inl b ↦
      let this = same x name b in
      u name ∙ cond-true (bytes_eq x name) (Some q) (low_at m name) b
      ∙ ap Some (e ∙ ap (λ o. lower_than o p) (h x)) ∙ sym (lowest-more (of_name ls x) p) ∙ ap lowest (sym (of-this ls x p)) ∙ ap (λ y. lowest (of_name (ls ++ (x, p) ∷ []) y)) this
  | inr b ↦
      u name ∙ cond-false (bytes_eq x name) (Some q) (low_at m name) b
      ∙ h name ∙ ap lowest (sym (of-other ls x p name (back x name b)))
]

pub none-more : (m : Map) (xs : List (Named Placed)) → xs ≡ [] → HasMore m m xs
none-more m xs e = subst (HasMore m m) (sym e) (λ ls h. subst (IsLowTable m) (sym (append-nil ls)) h)

-- An empty map is the table of no groups.
pub fill-empty : (m n : Map) (all : List (Named Placed)) → m.entries ≡ [] → HasMore m n all → IsLowTable n all
fill-empty m n all e g = g [] (λ name. ap (lookup (is_at (λ k. name_cmp name k.now))) e)

pub next-group : (m : List Rec) (j : ℕ) (g : GroupItem) → entry (groups m) (j + 1) ≡ Some g → drop j (groups m) ≡ g ∷ drop (j + 1) (groups m)
next-group m j g e = next-at (groups m) j g (sym (entry-at (groups m) j) ∙ e)

one-split : {A B : Type 0} (f : A → Option B) (x : A) (xs : List A) → filter_map f (x ∷ xs) ≡ filter_map f (x ∷ []) ++ filter_map f xs
one-split f x xs = split (f x) where
  split : (o : Option _) → cons_option o (filter_map f xs) ≡ cons_option o [] ++ filter_map f xs
  split None = refl
  split (Some y) = refl

pub lows-split : (m : List Rec) (xs : List Placed) (j : ℕ) (g : GroupItem) → entry (groups m) (j + 1) ≡ Some g
    → filter_map (low_of m xs) (drop j (groups m)) ≡ filter_map (low_of m xs) (g ∷ []) ++ filter_map (low_of m xs) (drop (j + 1) (groups m))
lows-split m xs j g e = ap (filter_map (low_of m xs)) (next-group m j g e) ∙ one-split (low_of m xs) g (drop (j + 1) (groups m))

-- The next module, with its segments.
pub next-placed : (ms : List Module) (vs : List (Vec Placed Global)) (j : ℕ) (m : Module) (v : Vec Placed Global) → m ≡ get_or ms j m → v ≡ get_or vs j v → j < length ms → length vs ≡ length ms
    → drop j (zip (typed_modules ms) (map (λ s. s.items) vs)) ≡ (recs (records_in m.bytes), v.items) ∷ drop (j + 1) (zip (typed_modules ms) (map (λ s. s.items) vs))
next-placed [] vs j m v a b l e = absurd (omega arith)
next-placed (x ∷ ms) [] j m v a b l e = absurd (omega arith)
next-placed (x ∷ ms) (y ∷ vs) zero m v a b l e = ap₂ (λ (u : Module) (w : Vec Placed Global). (recs (records_in u.bytes), w.items) ∷ zip (typed_modules ms) (map (λ s. s.items) vs)) (sym a) (sym b)
next-placed (x ∷ ms) (y ∷ vs) (suc j) m v a b l e =
    let same : suc (j + 1) ≡ suc j + 1 = omega arith in
    next-placed ms vs j m v a b (omega arith) (omega arith) ∙ ap (λ n. (recs (records_in m.bytes), v.items) ∷ drop n (zip (typed_modules (x ∷ ms)) (map (λ s. s.items) (y ∷ vs)))) same

pub none-placed : (ms : List Module) (vs : List (Vec Placed Global)) (j : ℕ) → length ms ≤ j → drop j (zip (typed_modules ms) (map (λ s. s.items) vs)) ≡ []
none-placed [] vs j h = drop-nil j
none-placed (m ∷ ms) [] j h = drop-nil j
none-placed (m ∷ ms) (v ∷ vs) zero h = absurd (omega arith)
none-placed (m ∷ ms) (v ∷ vs) (suc j) h = none-placed ms vs j (omega arith)

-- One more at the end.
pub more-of : {A B : Type 0} (f : A → B) (old new : List B) (x : B) (left rest : List A) (a : A) (all : List B) → new ≡ old ++ x ∷ [] → x ≡ f a → left ≡ a ∷ rest → old ++ map f left ≡ all → new ++ map f rest ≡ all
more-of f old new x left rest a all e g h k =
    ap (λ xs. xs ++ map f rest) (e ∙ ap (λ y. old ++ y ∷ []) g) ∙ append_assoc old (f a ∷ []) (map f rest) ∙ ap (λ xs. old ++ map f xs) (sym h) ∙ k

-- Each module has its segments.
pub as-many : (ls : List Lying) (k : ℕ) (ms : List Module) (vs : List (Vec Placed Global)) → map (λ v. v.items) vs ≡ map (segments_in ls) (enumerate_from k (typed_modules ms)) → length vs ≡ length ms
as-many ls k [] [] e = refl
as-many ls k [] (v ∷ vs) e = absurd (omega (arith, ap length e))
as-many ls k (m ∷ ms) [] e = absurd (omega (arith, ap length e))
as-many ls k (m ∷ ms) (v ∷ vs) e = ap suc (as-many ls (k + 1) ms vs (ap (drop 1) e))

pub next-of : (ms : List Module) (j : ℕ) (m : Module) → m ≡ get_or ms j m → j < length ms → drop j ms ≡ m ∷ drop (j + 1) ms
next-of ms j m is low = next-at ms j m (slice_get-get_or ms j m low ∙ ap Some (sym is))

-- The placement of the next module, with the places of its segments at the front of those that are left.
pub one-placed : {B : Type 0} (f : List Rec × List Placed → B) (ms : List Module) (j : ℕ) (m : Module) (left rest : List (Vec Placed Global)) (v : Vec Placed Global) (old new : List B) (x : B) (all : List B)
    → m ≡ get_or ms j m → j < length ms → left ≡ v ∷ rest → new ≡ old ++ x ∷ [] → x ≡ f (recs (records_in m.bytes), v.items)
    → old ++ map f (zip (typed_modules (drop j ms)) (map (λ s. s.items) left)) ≡ all → new ++ map f (zip (typed_modules (drop (j + 1) ms)) (map (λ s. s.items) rest)) ≡ all
one-placed f ms j m left rest v old new x all is low e n g h =
    let next = next-of ms j m is low in
    more-of f old new x (zip (typed_modules (drop j ms)) (map (λ s. s.items) left)) (zip (typed_modules (drop (j + 1) ms)) (map (λ s. s.items) rest)) (recs (records_in m.bytes), v.items) all n g
    (ap₂ (λ ns (vs : List (Vec Placed Global)). zip (typed_modules ns) (map (λ s. s.items) vs)) next e) h

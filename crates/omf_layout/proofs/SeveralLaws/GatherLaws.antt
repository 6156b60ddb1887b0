-- Values gathered by name, one more at a time.
use Rattle.std.proofs.Common.{append_assoc, ◌≡◌, ℕ, zero, suc, ◌<◌, List, [], ◌∷◌, ◌++◌, length, Bool, true, false, refl, sym, ap, ap₂, ◌∙◌, subst, inl, inr, append-nil, arith, Bor, Vec, Global, slice_set, get_or}
use Rattle.std.specs.Prelude.{map, not, cond, ◌||◌, Option, Some, None, is_some, option_map, bytes_eq, ⊤}
use Rattle.std.specs.List.{filter, list_any, cons_option}
use Rattle.std.specs.BTreeMap.{BTreeMap, get_by, is_at}
use Rattle.std.specs.Map.{lookup}
use Rattle.std.proofs.lemmas.Bool.{cond-true, cond-false, cases_Bool, false_from_ne_true, true≢false, or_parts}
use Rattle.std.proofs.lemmas.Bool.Decides.{not_from_Decides}
use Rattle.std.proofs.lemmas.List.Elements.{filter_map-append, filter-append}
use Rattle.std.proofs.lemmas.List.{length-map}
use Rattle.std.proofs.lemmas.Option.{none-some, same_Some}
use Rattle.std.proofs.lemmas.Slice.Eq.{bytes_eq-Decides}
use Rattle.omf_names.specs.Names.{name_cmp}
use Rattle.omf_names.proofs.NameTables.{IsUpdated, at_name, twice_updated}
use Rattle.omf_layout.specs.Several.Gathered.{distinct, value_of, of_name, names_in, gathered, place_of, with_value, IsTable, AreGathered}

abbrev pub Name : Type 0
Name = List ℕ

abbrev pub has : Name → List Name → Bool
has x zs = list_any (bytes_eq x) zs

abbrev pub other : Name → Name → Bool
other y z = not (bytes_eq y z)

pub same : (x y : Name) → bytes_eq x y ≡ true → x ≡ y
same x y e = (bytes_eq-Decides x y).0 e

pub itself : (x : Name) → bytes_eq x x ≡ true
itself x = (bytes_eq-Decides x x).1 refl

pub back : (x y : Name) → bytes_eq x y ≡ false → bytes_eq y x ≡ false
back x y e = false_from_ne_true (bytes_eq y x) (λ t. not_from_Decides (bytes_eq x y) (bytes_eq-Decides x y) e (sym (same y x t)))

pub dropped : (y z : Name) (zs : List Name) → bytes_eq y z ≡ true → filter (other y) (z ∷ zs) ≡ filter (other y) zs
dropped y z zs t = cond-false (other y z) (z ∷ filter (other y) zs) (filter (other y) zs) (ap not t)

pub kept : (y z : Name) (zs : List Name) → bytes_eq y z ≡ false → filter (other y) (z ∷ zs) ≡ z ∷ filter (other y) zs
kept y z zs f = cond-true (other y z) (z ∷ filter (other y) zs) (filter (other y) zs) (ap not f)

has-other : (x y : Name) → bytes_eq x y ≡ false → (zs : List Name) → has x (filter (other y) zs) ≡ has x zs
has-other x y e [] = refl
has-other x y e (z ∷ zs) = elim (cases_Bool (bytes_eq y z)) [
  | inl t ↦ ap (has x) (dropped y z zs t) ∙ has-other x y e zs ∙ sym (ap (λ b. b || has x zs) (ap (bytes_eq x) (sym (same y z t)) ∙ e))
  | inr f ↦ ap (has x) (kept y z zs f) ∙ ap (λ b. bytes_eq x z || b) (has-other x y e zs)
]

pub has-self : (y : Name) (zs : List Name) → has y (filter (other y) zs) ≡ false
has-self y [] = refl
has-self y (z ∷ zs) = elim (cases_Bool (bytes_eq y z)) [
  | inl t ↦ ap (has y) (dropped y z zs t) ∙ has-self y zs
  | inr f ↦ ap (has y) (kept y z zs f) ∙ ap (λ b. b || has y (filter (other y) zs)) f ∙ has-self y zs
]

has-none : (x y : Name) (zs : List Name) → has x zs ≡ false → has x (filter (other y) zs) ≡ false
has-none x y [] h = refl
has-none x y (z ∷ zs) h =
    let parts = or_parts (bytes_eq x z) (has x zs) h in
    elim (cases_Bool (bytes_eq y z)) [
      | inl t ↦ ap (has x) (dropped y z zs t) ∙ has-none x y zs parts.1
      | inr f ↦ ap (has x) (kept y z zs f) ∙ ap (λ b. b || has x (filter (other y) zs)) parts.0 ∙ has-none x y zs parts.1
    ]

-- Each name once.
abbrev pub Once : List Name → Type 0
Once [] = ⊤
Once (y ∷ ys) = (has y ys ≡ false) × Once ys

once-filter : (y : Name) (zs : List Name) → Once zs → Once (filter (other y) zs)
once-filter y [] o = tt
once-filter y (z ∷ zs) o = elim (cases_Bool (bytes_eq y z)) [
  | inl t ↦ subst Once (sym (dropped y z zs t)) (once-filter y zs o.1)
  | inr f ↦ subst Once (sym (kept y z zs f)) (has-none z y zs o.0, once-filter y zs o.1)
]

pub once-distinct : (xs : List Name) → Once (distinct xs)
once-distinct [] = tt
once-distinct (x ∷ xs) = (has-self x (distinct xs), once-filter x (distinct xs) (once-distinct xs))

-- One more name at the end.
abbrev with-new : Bool → List Name → Name → List Name
with-new true ds x = ds
with-new false ds x = ds ++ x ∷ []

new-same : (x y : Name) → bytes_eq y x ≡ true → (b : Bool) (ds : List Name) → filter (other y) (with-new b ds x) ≡ filter (other y) ds
new-same x y e true ds = refl
new-same x y e false ds = filter-append (other y) ds (x ∷ []) ∙ ap (λ zs. filter (other y) ds ++ zs) (dropped y x [] e) ∙ append-nil (filter (other y) ds)

new-other : (x y : Name) → bytes_eq y x ≡ false → (b : Bool) (ds : List Name) → filter (other y) (with-new b ds x) ≡ with-new b (filter (other y) ds) x
new-other x y e true ds = refl
new-other x y e false ds = filter-append (other y) ds (x ∷ []) ∙ ap (λ zs. filter (other y) ds ++ zs) (kept y x [] e)

new-after : (y x : Name) (b : Bool) (ds : List Name) → y ∷ with-new b ds x ≡ with-new b (y ∷ ds) x
new-after y x true ds = refl
new-after y x false ds = refl

distinct-step : (xs : List Name) (x : Name) → distinct (xs ++ x ∷ []) ≡ with-new (has x (distinct xs)) (distinct xs) x
distinct-step [] x = refl
distinct-step (y ∷ ys) x =
    let ds = distinct ys in
    let es = filter (other y) ds in
    ap (λ zs. y ∷ filter (other y) zs) (distinct-step ys x) ∙ elim (cases_Bool (bytes_eq x y)) [
      | inl t ↦ ap (λ zs. y ∷ zs) (new-same x y (subst (λ z. bytes_eq z x ≡ true) (same x y t) (itself x)) (has x ds) ds) ∙ sym (ap (λ b. with-new (b || has x es) (y ∷ es) x) t)
      | inr f ↦
          ap (λ zs. y ∷ zs) (new-other x y (back x y f) (has x ds) ds) ∙ new-after y x (has x ds) es
          ∙ ap (λ b. with-new b (y ∷ es) x) (sym (has-other x y f ds)) ∙ sym (ap (λ b. with-new (b || has x es) (y ∷ es) x) f)
    ]

pub has-distinct : (x : Name) (xs : List Name) → has x (distinct xs) ≡ has x xs
has-distinct x [] = refl
has-distinct x (y ∷ ys) = elim (cases_Bool (bytes_eq x y)) [
  | inl t ↦ ap (λ b. b || has x (filter (other y) (distinct ys))) t ∙ sym (ap (λ b. b || has x ys) t)
  | inr f ↦ ap (λ b. bytes_eq x y || b) (has-other x y f (distinct ys) ∙ has-distinct x ys)
]

-- The position of a name.
placed-suc : (o : Option ℕ) → is_some (option_map suc o) ≡ is_some o
placed-suc None = refl
placed-suc (Some i) = refl

is-placed : (x : Name) (zs : List Name) → is_some (place_of x zs) ≡ has x zs
is-placed x [] = refl
is-placed x (z ∷ zs) = elim (cases_Bool (bytes_eq x z)) [
  | inl t ↦ ap is_some (cond-true (bytes_eq x z) (Some 0) (option_map suc (place_of x zs)) t) ∙ sym (ap (λ b. b || has x zs) t)
  | inr f ↦ ap is_some (cond-false (bytes_eq x z) (Some 0) (option_map suc (place_of x zs)) f) ∙ placed-suc (place_of x zs) ∙ is-placed x zs ∙ sym (ap (λ b. b || has x zs) f)
]

has-placed : (x : Name) (zs : List Name) (i : ℕ) → place_of x zs ≡ Some i → has x zs ≡ true
has-placed x zs i e = sym (is-placed x zs) ∙ ap is_some e

has-unplaced : (x : Name) (zs : List Name) → place_of x zs ≡ None → has x zs ≡ false
has-unplaced x zs e = sym (is-placed x zs) ∙ ap is_some e

unplaced : (x : Name) (o : Option ℕ) → is_some o ≡ false → o ≡ None
unplaced x None h = refl
unplaced x (Some i) h = absurd (true≢false h)

suc-some : (o : Option ℕ) (i : ℕ) → option_map suc o ≡ Some i → (j : ℕ) × (o ≡ Some j) × (i ≡ suc j)
suc-some None i h = absurd (none-some i h)
suc-some (Some j) i h = (j, refl, sym (same_Some (suc j) i h))

pub place-below : (x : Name) (zs : List Name) (i : ℕ) → place_of x zs ≡ Some i → i < length zs
place-below x [] i e = absurd (none-some i e)
place-below x (z ∷ zs) i e = elim (cases_Bool (bytes_eq x z)) [
  | inl t ↦ let z = same_Some 0 i (sym (cond-true (bytes_eq x z) (Some 0) (option_map suc (place_of x zs)) t) ∙ e) in omega (arith, z)
  | inr f ↦
      let p = suc-some (place_of x zs) i (sym (cond-false (bytes_eq x z) (Some 0) (option_map suc (place_of x zs)) f) ∙ e) in
      let low = place-below x zs p.0 p.1 in
      omega (arith, low, p.2)
]

place-end : (x : Name) (zs : List Name) → has x zs ≡ false → place_of x (zs ++ x ∷ []) ≡ Some (length zs)
place-end x [] h = cond-true (bytes_eq x x) (Some 0) None (itself x)
place-end x (z ∷ zs) h =
    let parts = or_parts (bytes_eq x z) (has x zs) h in
    cond-false (bytes_eq x z) (Some 0) (option_map suc (place_of x (zs ++ x ∷ []))) parts.0 ∙ ap (option_map suc) (place-end x zs parts.1)

place-other : (n x : Name) → bytes_eq n x ≡ false → (zs : List Name) → place_of n (zs ++ x ∷ []) ≡ place_of n zs
place-other n x e [] = cond-false (bytes_eq n x) (Some 0) None e
place-other n x e (z ∷ zs) = ap (λ o. cond (bytes_eq n z) (Some 0) (option_map suc o)) (place-other n x e zs)

-- The table has one more name.
table-step : (m n : BTreeMap (Bor (List ℕ)) ℕ) (x : Name) (ds : List Name) → IsTable m ds → has x ds ≡ false
    → IsUpdated x m n (Some (length ds)) → IsTable n (ds ++ x ∷ [])
table-step m n x ds h a u name = elim (cases_Bool (bytes_eq x name)) [
  | inl t ↦
      u name ∙ cond-true (bytes_eq x name) (Some (length ds)) (get_by (λ k. name_cmp name k.now) m) t
      ∙ sym (place-end x ds a) ∙ ap (λ y. place_of y (ds ++ x ∷ [])) (same x name t)
  | inr f ↦
      u name ∙ cond-false (bytes_eq x name) (Some (length ds)) (get_by (λ k. name_cmp name k.now) m) f
      ∙ h name ∙ sym (place-other name x (back x name f) ds)
]

module _ {A : Type 0} where
  -- The values of a name, with one more of another or of that name.
  of-name-step : (xs : List (Name × A)) (x : Name) (v : A) (n : Name) → of_name (xs ++ (x, v) ∷ []) n ≡ of_name xs n ++ cons_option (value_of n (x, v)) []
  of-name-step xs x v n = filter_map-append (value_of n) xs ((x, v) ∷ [])

  pub of-this : (xs : List (Name × A)) (x : Name) (v : A) → of_name (xs ++ (x, v) ∷ []) x ≡ of_name xs x ++ v ∷ []
  of-this xs x v = of-name-step xs x v x ∙ ap (λ o. of_name xs x ++ cons_option o []) (cond-true (bytes_eq x x) (Some v) None (itself x))

  pub of-other : (xs : List (Name × A)) (x : Name) (v : A) (n : Name) → bytes_eq n x ≡ false → of_name (xs ++ (x, v) ∷ []) n ≡ of_name xs n
  of-other xs x v n e = of-name-step xs x v n ∙ ap (λ o. of_name xs n ++ cons_option o []) (cond-false (bytes_eq n x) (Some v) None e) ∙ append-nil (of_name xs n)

  pub of-none : (xs : List (Name × A)) (x : Name) → has x (names_in xs) ≡ false → of_name xs x ≡ []
  of-none [] x h = refl
  of-none (y ∷ ys) x h =
      let parts = or_parts (bytes_eq x y.0) (has x (names_in ys)) h in
      ap (λ o. cons_option o (of_name ys x)) (cond-false (bytes_eq x y.0) (Some y.1) None parts.0) ∙ of-none ys x parts.1

  names-step : (xs : List (Name × A)) (x : Name) (v : A) → names_in (xs ++ (x, v) ∷ []) ≡ names_in xs ++ x ∷ []
  names-step [] x v = refl
  names-step (y ∷ ys) x v = ap (λ zs. y.0 ∷ zs) (names-step ys x v)

  module _ (xs : List (Name × A)) (x : Name) (v : A) where
    abbrev more : Name → List A
    more n = of_name (xs ++ (x, v) ∷ []) n

    unchanged : (ds : List Name) → has x ds ≡ false → map more ds ≡ map (of_name xs) ds
    unchanged [] h = refl
    unchanged (d ∷ ds) h =
        let parts = or_parts (bytes_eq x d) (has x ds) h in
        ap₂ (λ r rs. r ∷ rs) (of-other xs x v d (back x d parts.0)) (unchanged ds parts.1)

    changed : (ds : List Name) (i : ℕ) → Once ds → place_of x ds ≡ Some i → map more ds ≡ with_value i v (map (of_name xs) ds)
    changed [] i o e = absurd (none-some i e)
    changed (d ∷ ds) i o e = elim (cases_Bool (bytes_eq x d)) [
      | inl t ↦
          let z = same_Some 0 i (sym (cond-true (bytes_eq x d) (Some 0) (option_map suc (place_of x ds)) t) ∙ e) in
          let absent : has x ds ≡ false = subst (λ y. has y ds ≡ false) (sym (same x d t)) o.0 in
          ap₂ (λ r rs. r ∷ rs) (subst (λ y. more y ≡ of_name xs y ++ v ∷ []) (same x d t) (of-this xs x v)) (unchanged ds absent)
          ∙ ap (λ k. with_value k v (map (of_name xs) (d ∷ ds))) z
      | inr f ↦
          let p = suc-some (place_of x ds) i (sym (cond-false (bytes_eq x d) (Some 0) (option_map suc (place_of x ds)) f) ∙ e) in
          ap₂ (λ r rs. r ∷ rs) (of-other xs x v d (back x d f)) (changed ds p.0 o.1 p.1) ∙ ap (λ k. with_value k v (map (of_name xs) (d ∷ ds))) (sym p.2)
    ]

    map-end : (ds : List Name) → map more (ds ++ x ∷ []) ≡ map more ds ++ more x ∷ []
    map-end [] = refl
    map-end (d ∷ ds) = ap (λ rs. more d ∷ rs) (map-end ds)

    distinct-names : (b : Bool) → has x (distinct (names_in xs)) ≡ b → distinct (names_in (xs ++ (x, v) ∷ [])) ≡ with-new b (distinct (names_in xs)) x
    distinct-names b e = ap distinct (names-step xs x v) ∙ distinct-step (names_in xs) x ∙ ap (λ c. with-new c (distinct (names_in xs)) x) e

    gathered-old : (i : ℕ) → place_of x (distinct (names_in xs)) ≡ Some i → gathered (xs ++ (x, v) ∷ []) ≡ with_value i v (gathered xs)
    gathered-old i e = ap (map more) (distinct-names true (has-placed x (distinct (names_in xs)) i e)) ∙ changed (distinct (names_in xs)) i (once-distinct (names_in xs)) e

    gathered-new : has x (distinct (names_in xs)) ≡ false → gathered (xs ++ (x, v) ∷ []) ≡ gathered xs ++ (v ∷ []) ∷ []
    gathered-new h =
        let ds = distinct (names_in xs) in
        ap (map more) (distinct-names false h) ∙ map-end ds
        ∙ ap₂ (λ rs r. rs ++ r ∷ []) (unchanged ds h) (of-this xs x v ∙ ap (λ r. r ++ v ∷ []) (of-none xs x (sym (has-distinct x (names_in xs)) ∙ h)))

    pub value-added : (m : BTreeMap (Bor (List ℕ)) ℕ) (runs new : List (List A)) (i : ℕ) → AreGathered m runs xs → get_by (λ k. name_cmp x k.now) m ≡ Some i → new ≡ with_value i v runs → AreGathered m new (xs ++ (x, v) ∷ [])
    value-added m runs new i g e w =
        let here : place_of x (distinct (names_in xs)) ≡ Some i = sym (g.found x) ∙ e in
        record {
          found = subst (IsTable m) (sym (distinct-names true (has-placed x (distinct (names_in xs)) i here))) g.found;
          all = w ∙ ap (with_value i v) g.all ∙ sym (gathered-old i here);
        }

    pub run-added : (m n : BTreeMap (Bor (List ℕ)) ℕ) (runs new : List (List A)) (count : ℕ) → AreGathered m runs xs → get_by (λ k. name_cmp x k.now) m ≡ None → count ≡ length runs
        → IsUpdated x m n (Some count) → new ≡ runs ++ (v ∷ []) ∷ [] → AreGathered n new (xs ++ (x, v) ∷ [])
    run-added m n runs new count g e c u w =
        let ds = distinct (names_in xs) in
        let absent : has x ds ≡ false = has-unplaced x ds (sym (g.found x) ∙ e) in
        let many : count ≡ length ds = c ∙ ap length g.all ∙ length-map ds (of_name xs) in
        record {
          found = subst (IsTable n) (sym (distinct-names false absent))
              (table-step m n x ds g.found absent (subst (λ k. IsUpdated x m n (Some k)) many u));
          all = w ∙ ap (λ rs. rs ++ (v ∷ []) ∷ []) g.all ∙ sym (gathered-new absent);
        }

  pub place-in-runs : (xs : List (Name × A)) (m : BTreeMap (Bor (List ℕ)) ℕ) (runs : List (List A)) (x : Name) (i : ℕ) → AreGathered m runs xs → get_by (λ k. name_cmp x k.now) m ≡ Some i → i < length runs
  place-in-runs xs m runs x i g e =
      let ds = distinct (names_in xs) in
      let low = place-below x ds i (sym (g.found x) ∙ e) in
      let many : length runs ≡ length ds = ap length g.all ∙ length-map ds (of_name xs) in
      omega (arith, low, many)

  pub none-gathered : (m : BTreeMap (Bor (List ℕ)) ℕ) → m.entries ≡ [] → AreGathered {A = A} m [] []
  none-gathered m e = record { found = λ name. ap (lookup (is_at (λ k. name_cmp name k.now))) e; all = refl }

-- A list with one more value.
module _ {A : Type 0} where
  pub run-changed : (rs : List (Vec A Global)) (i : ℕ) (d new : Vec A Global) (v : A) → i < length rs → new.items ≡ (get_or rs i d).items ++ v ∷ [] → map (λ r. r.items) (slice_set rs i new) ≡ with_value i v (map (λ r. r.items) rs)
  run-changed [] i d new v h e = absurd (omega (arith, h))
  run-changed (r ∷ rs) zero d new v h e = ap (λ xs. xs ∷ map (λ s. s.items) rs) e
  run-changed (r ∷ rs) (suc i) d new v h e = ap (λ ys. r.items ∷ ys) (run-changed rs i d new v (omega (arith, h)) e)

-- Some of the values are gathered, and these are left.
pub record AreGatheredSoFar {A : Type 0} (m : BTreeMap (Bor (List ℕ)) ℕ) (runs : List (List A)) (left all : List (List ℕ × A)) : Type 0 where
  pub done : List (List ℕ × A)
  pub gathered : AreGathered m runs done
  pub whole : done ++ left ≡ all

-- One more value is gathered.
pub gathered-more : {A : Type 0} (m n : BTreeMap (Bor (List ℕ)) ℕ) (old new : List (List A)) (left rest all : List (List ℕ × A)) (x : List ℕ × A) → left ≡ x ∷ rest
    → ((xs : List (List ℕ × A)) → AreGathered m old xs → AreGathered n new (xs ++ x ∷ [])) → AreGatheredSoFar m old left all → AreGatheredSoFar n new rest all
gathered-more m n old new left rest all x e next h = record {
  done = h.done ++ x ∷ [];
  gathered = next h.done h.gathered;
  whole = append_assoc h.done (x ∷ []) rest ∙ ap (λ ys. h.done ++ ys) (sym e) ∙ h.whole;
}

-- A name was given another position, and then its own again.
table-kept : (m k n : BTreeMap (Bor (List ℕ)) ℕ) (x : Name) (v : Option ℕ) (i : ℕ) → get_by (λ k. name_cmp x k.now) m ≡ Some i → IsUpdated x m k v → IsUpdated x k n (Some i)
    → (names : List Name) → IsTable m names → IsTable n names
table-kept m k n x v i here f g names h name = elim (cases_Bool (bytes_eq x name)) [
  | inl t ↦
      twice_updated x m k n v (Some i) f g name ∙ cond-true (bytes_eq x name) (Some i) (at_name m name) t
      ∙ sym here ∙ ap (at_name m) (same x name t) ∙ h name
  | inr e ↦ twice_updated x m k n v (Some i) f g name ∙ cond-false (bytes_eq x name) (Some i) (at_name m name) e ∙ h name
]

pub places-kept : {A : Type 0} (m k n : BTreeMap (Bor (List ℕ)) ℕ) (x : Name) (v : Option ℕ) (i : ℕ) → get_by (λ k. name_cmp x k.now) m ≡ Some i → IsUpdated x m k v → IsUpdated x k n (Some i)
    → (runs : List (List A)) (ys : List (Name × A)) → AreGathered m runs ys → AreGathered n runs ys
places-kept m k n x v i here f g runs ys h = record {
  found = table-kept m k n x v i here f g (distinct (names_in ys)) h.found;
  all = h.all;
}

-- The names that more than one public has, from a table of publics by name.
use Rattle.std.proofs.Common.{◌≡◌, ◌+◌, ◌≤◌, ℕ, suc, arith, map, Bool, true, false, List, [], ◌∷◌, ◌++◌, length, refl, sym, ap, ap₂, subst, ◌∙◌, inl, inr, Bor, Vec, Global, nat_cmp, cond}
use Rattle.std.specs.Prelude.{Some, None, bytes_eq, flat_map, nat_le, codes, ◌||◌}
use Rattle.std.specs.BTreeMap.{IsOrdered, is_at}
use Rattle.std.specs.Cmp.Lexicographic.{slice_cmp}
use Rattle.std.specs.List.{AllByRecursion, enumerate_from}
use Rattle.std.specs.List.Sorted.{IsStrictlySortedBy}
use Rattle.std.specs.Map.{keys_of, lookup}
use Rattle.std.specs.Ordering.{is_eq}
use Rattle.std.specs.declared.cmp.Ordering.{Ordering}
use Rattle.std.specs.declared.cmp.Ordering.TheVariants.{Less}
use Rattle.std.proofs.lemmas.Bool.{cond-true, cond-false, cases_Bool, false≢true, lt-leb}
use Rattle.std.proofs.lemmas.List.{map-append}
use Rattle.std.proofs.lemmas.Map.Keys.{sorted_head, sorted_tail}
use Rattle.std.proofs.lemmas.Map.Text.{is_eq-slice_cmp}
use Rattle.std.proofs.lemmas.Option.{none-some}
use Rattle.std.proofs.lemmas.Slice.Eq.{bytes_eq-Decides}
use Rattle.omf_records.specs.Values.{Rec}
use Rattle.omf_externals.specs.Names.{AreApart, all_names, count_of, has_name, public_names}
use Rattle.omf_externals.specs.Repeated.{IsRepeatedText, repeated_line}
use Rattle.omf_externals.specs.Unresolved.{IsByName, Row, Table, all_rows, items_or, module_rows, name_line, rows_in, spots_of}
use Rattle.omf_externals.specs.declared.by_name.Spot.{Spot}

abbrev Entry : Type 0
Entry = Bor (List ℕ) × Vec Spot Global

abbrev in_order : Bor (List ℕ) → Bor (List ℕ) → Ordering
in_order x y = slice_cmp nat_cmp x.now y.now

abbrev probe : List ℕ → Bor (List ℕ) → Bool
probe name = is_at (λ k. slice_cmp nat_cmp name k.now)

abbrev is_big : Entry → Bool
is_big e = nat_le 2 (length e.1.items)

-- The names of the entries with more than one public.
abbrev big_names : List Entry → List (List ℕ)
big_names [] = []
big_names (e ∷ es) = cond (is_big e) (e.0.now ∷ big_names es) (big_names es)

less-differs : (x y : List ℕ) → slice_cmp nat_cmp x y ≡ Less → bytes_eq x y ≡ false
less-differs x y h = sym (is_eq-slice_cmp x y) ∙ ap is_eq h

flipped : (x y : List ℕ) → bytes_eq x y ≡ false → bytes_eq y x ≡ false
flipped x y h = elim (cases_Bool (bytes_eq y x)) [
  | inr f ↦ f
  | inl t ↦ absurd (false≢true (sym h ∙ (bytes_eq-Decides x y).1 (sym ((bytes_eq-Decides y x).0 t))))
]

-- ---- a name that is below all others

not-later : (x : List ℕ) (es : List Entry) → AllByRecursion (λ (y : Bor (List ℕ)). slice_cmp nat_cmp x y.now ≡ Less) (keys_of es) → has_name (big_names es) x ≡ false
not-later x [] h = refl
not-later x (e ∷ es) h = elim (cases_Bool (is_big e)) [
  | inl t ↦
      ap (λ (ns : List (List ℕ)). has_name ns x) (cond-true (is_big e) (e.0.now ∷ big_names es) (big_names es) t)
      ∙ ap (λ b. b || has_name (big_names es) x) (flipped x e.0.now (less-differs x e.0.now h.0)) ∙ not-later x es h.1
  | inr f ↦ ap (λ (ns : List (List ℕ)). has_name ns x) (cond-false (is_big e) (e.0.now ∷ big_names es) (big_names es) f) ∙ not-later x es h.1
]

not-found : (x : List ℕ) (es : List Entry) → AllByRecursion (λ (y : Bor (List ℕ)). slice_cmp nat_cmp x y.now ≡ Less) (keys_of es) → lookup (probe x) es ≡ None
not-found x [] h = refl
not-found x (e ∷ es) h = cond-false (probe x e.0) (Some e.1) (lookup (probe x) es) (ap is_eq h.0) ∙ not-found x es h.1

-- ---- the names are those with more than one public

has-big : (name : List ℕ) (es : List Entry) → IsStrictlySortedBy in_order (keys_of es) → has_name (big_names es) name ≡ nat_le 2 (length (items_or (lookup (probe name) es)))
has-big name [] s = refl
has-big name (e ∷ es) s =
    let first = sorted_head in_order e.0 (keys_of es) s in
    let more = has-big name es (sorted_tail in_order e.0 (keys_of es) s) in
    let is : probe name e.0 ≡ bytes_eq name e.0.now = is_eq-slice_cmp name e.0.now in
    elim (cases_Bool (bytes_eq name e.0.now)) [
      | inl t ↦
          let same : name ≡ e.0.now = (bytes_eq-Decides name e.0.now).0 t in
          let found : lookup (probe name) (e ∷ es) ≡ Some e.1 = cond-true (probe name e.0) (Some e.1) (lookup (probe name) es) (is ∙ t) in
          let none : has_name (big_names es) name ≡ false = ap (has_name (big_names es)) same ∙ not-later e.0.now es first in
          here e es name ((bytes_eq-Decides e.0.now name).1 (sym same)) none ∙ sym (ap (λ o. nat_le 2 (length (items_or o))) found)
      | inr f ↦
          let found : lookup (probe name) (e ∷ es) ≡ lookup (probe name) es = cond-false (probe name e.0) (Some e.1) (lookup (probe name) es) (is ∙ f) in
          there e es name (flipped name e.0.now f) ∙ more ∙ sym (ap (λ o. nat_le 2 (length (items_or o))) found)
    ]
  where
    here : (e : Entry) (es : List Entry) (name : List ℕ) → bytes_eq e.0.now name ≡ true → has_name (big_names es) name ≡ false → has_name (big_names (e ∷ es)) name ≡ is_big e
    here e es name t none = elim (cases_Bool (is_big e)) [
      | inl b ↦ ap (λ (ns : List (List ℕ)). has_name ns name) (cond-true (is_big e) (e.0.now ∷ big_names es) (big_names es) b) ∙ ap (λ c. c || has_name (big_names es) name) t ∙ sym b
      | inr b ↦ ap (λ (ns : List (List ℕ)). has_name ns name) (cond-false (is_big e) (e.0.now ∷ big_names es) (big_names es) b) ∙ none ∙ sym b
    ]

    there : (e : Entry) (es : List Entry) (name : List ℕ) → bytes_eq e.0.now name ≡ false → has_name (big_names (e ∷ es)) name ≡ has_name (big_names es) name
    there e es name f = elim (cases_Bool (is_big e)) [
      | inl b ↦ ap (λ (ns : List (List ℕ)). has_name ns name) (cond-true (is_big e) (e.0.now ∷ big_names es) (big_names es) b) ∙ ap (λ c. c || has_name (big_names es) name) f
      | inr b ↦ ap (λ (ns : List (List ℕ)). has_name ns name) (cond-false (is_big e) (e.0.now ∷ big_names es) (big_names es) b)
    ]

-- ---- they ascend

all-above : (x : List ℕ) (es : List Entry) → AllByRecursion (λ (y : Bor (List ℕ)). slice_cmp nat_cmp x y.now ≡ Less) (keys_of es) → AllByRecursion (λ y. slice_cmp nat_cmp x y ≡ Less) (big_names es)
all-above x [] h = h
all-above x (e ∷ es) h = elim (cases_Bool (is_big e)) [
  | inl t ↦ subst (AllByRecursion (λ y. slice_cmp nat_cmp x y ≡ Less)) (sym (cond-true (is_big e) (e.0.now ∷ big_names es) (big_names es) t)) (h.0, all-above x es h.1)
  | inr f ↦ subst (AllByRecursion (λ y. slice_cmp nat_cmp x y ≡ Less)) (sym (cond-false (is_big e) (e.0.now ∷ big_names es) (big_names es) f)) (all-above x es h.1)
]

none-sorted : IsStrictlySortedBy (slice_cmp nat_cmp) []
unfolding IsStrictlySortedBy
none-sorted = tt

one-sorted : (x : List ℕ) (xs : List (List ℕ)) → AllByRecursion (λ y. slice_cmp nat_cmp x y ≡ Less) xs → IsStrictlySortedBy (slice_cmp nat_cmp) xs → IsStrictlySortedBy (slice_cmp nat_cmp) (x ∷ xs)
unfolding IsStrictlySortedBy
one-sorted x xs h s = (h, s)

big-ascend : (es : List Entry) → IsStrictlySortedBy in_order (keys_of es) → IsStrictlySortedBy (slice_cmp nat_cmp) (big_names es)
big-ascend [] s = none-sorted
big-ascend (e ∷ es) s =
    let first = sorted_head in_order e.0 (keys_of es) s in
    let more = big-ascend es (sorted_tail in_order e.0 (keys_of es) s) in
    elim (cases_Bool (is_big e)) [
      | inl t ↦ subst (IsStrictlySortedBy (slice_cmp nat_cmp)) (sym (cond-true (is_big e) (e.0.now ∷ big_names es) (big_names es) t)) (one-sorted e.0.now (big_names es) (all-above e.0.now es first) more)
      | inr f ↦ subst (IsStrictlySortedBy (slice_cmp nat_cmp)) (sym (cond-false (is_big e) (e.0.now ∷ big_names es) (big_names es) f)) more
    ]

-- ---- their lines

module _ (labels : List (List ℕ)) (rows : List Row) where
  abbrev entry_line : Entry → List ℕ
  entry_line e = repeated_line labels e.0.now e.1.items

  abbrev own_line : List ℕ → List ℕ
  own_line n = name_line labels (codes "twice") n (spots_of rows n)

  abbrev Finds : List Entry → Type 0
  Finds es = (name : List ℕ) (v : Vec Spot Global) → lookup (probe name) es ≡ Some v → v.items ≡ spots_of rows name

  tail-finds : (e : Entry) (es : List Entry) → AllByRecursion (λ (y : Bor (List ℕ)). slice_cmp nat_cmp e.0.now y.now ≡ Less) (keys_of es) → Finds (e ∷ es) → Finds es
  tail-finds e es first h name v k =
      let is : probe name e.0 ≡ bytes_eq name e.0.now = is_eq-slice_cmp name e.0.now in
      elim (cases_Bool (bytes_eq name e.0.now)) [
        | inl t ↦
            let same : name ≡ e.0.now = (bytes_eq-Decides name e.0.now).0 t in
            absurd (none-some v (sym (ap (λ n. lookup (probe n) es) same ∙ not-found e.0.now es first) ∙ k))
        | inr f ↦ h name v (cond-false (probe name e.0) (Some e.1) (lookup (probe name) es) (is ∙ f) ∙ k)
      ]

  head-finds : (e : Entry) (es : List Entry) → Finds (e ∷ es) → e.1.items ≡ spots_of rows e.0.now
  head-finds e es h = h e.0.now e.1 (cond-true (probe e.0.now e.0) (Some e.1) (lookup (probe e.0.now) es) (is_eq-slice_cmp e.0.now e.0.now ∙ (bytes_eq-Decides e.0.now e.0.now).1 refl))

  big-lines : (es : List Entry) → IsStrictlySortedBy in_order (keys_of es) → Finds es → flat_map entry_line es ≡ flat_map own_line (big_names es)
  big-lines [] s h = refl
  big-lines (e ∷ es) s h =
      let first = sorted_head in_order e.0 (keys_of es) s in
      let more = big-lines es (sorted_tail in_order e.0 (keys_of es) s) (tail-finds e es first h) in
      elim (cases_Bool (is_big e)) [
        | inl t ↦
            ap₂ (λ (l ls : List ℕ). l ++ ls) (cond-true (is_big e) (name_line labels (codes "twice") e.0.now e.1.items) [] t ∙ ap (name_line labels (codes "twice") e.0.now) (head-finds e es h)) more
            ∙ sym (ap (flat_map own_line) (cond-true (is_big e) (e.0.now ∷ big_names es) (big_names es) t))
        | inr f ↦
            ap₂ (λ (l ls : List ℕ). l ++ ls) (cond-false (is_big e) (name_line labels (codes "twice") e.0.now e.1.items) [] f) more
            ∙ sym (ap (flat_map own_line) (cond-false (is_big e) (e.0.now ∷ big_names es) (big_names es) f))
      ]

  table-finds : (m : Table) → IsByName m rows → Finds m.entries
  table-finds m h name v k = ap items_or (sym k) ∙ h name

  pub repeated-lines : (m : Table) (front text : List ℕ) → IsByName m rows → IsOrdered in_order m → front ≡ [] → text ≡ front ++ flat_map entry_line m.entries → IsRepeatedText labels rows text
  repeated-lines m front text h s none e = (
    big_names m.entries,
    record { ascending = big-ascend m.entries s; each = λ name. has-big name m.entries s ∙ ap (λ (ss : List Spot). nat_le 2 (length ss)) (h name) },
    e ∙ ap (λ t. t ++ flat_map entry_line m.entries) none ∙ big-lines m.entries s (table-finds m h),
  )

-- ---- where no name is there twice

spots-counted : (rs : List Row) (name : List ℕ) → length (spots_of rs name) ≡ count_of (map (λ r. r.0) rs) name
spots-counted [] name = refl
spots-counted (r ∷ rs) name =
    let others = count_of (map (λ (q : Row). q.0) rs) name in
    elim (cases_Bool (bytes_eq r.0 name)) [
      | inl t ↦
          ap length (cond-true (bytes_eq r.0 name) (r.1 ∷ spots_of rs name) (spots_of rs name) t) ∙ ap suc (spots-counted rs name)
          ∙ sym (cond-true (bytes_eq r.0 name) (suc others) others t)
      | inr f ↦
          ap length (cond-false (bytes_eq r.0 name) (r.1 ∷ spots_of rs name) (spots_of rs name) f) ∙ spots-counted rs name
          ∙ sym (cond-false (bytes_eq r.0 name) (suc others) others f)
    ]

names-in : (j : ℕ) (names : List (List ℕ)) → map (λ r. r.0) (rows_in j names) ≡ names
names-in j [] = refl
names-in j (x ∷ xs) = ap (λ ys. x ∷ ys) (names-in j xs)

names-from : (i : ℕ) (ms : List (List Rec)) → map (λ r. r.0) (flat_map module_rows (enumerate_from i ms)) ≡ all_names ms
names-from i [] = refl
names-from i (m ∷ ms) =
    map-append (λ r. r.0) (rows_in i (public_names false m)) (flat_map module_rows (enumerate_from (i + 1) ms))
    ∙ ap₂ (λ xs ys. xs ++ ys) (names-in i (public_names false m)) (names-from (i + 1) ms)

pub none-repeated : (labels : List (List ℕ)) (ms : List (List Rec)) → AreApart (all_names ms) → IsRepeatedText labels (all_rows ms) []
none-repeated labels ms h = ([], record { ascending = none-sorted; each = none }, refl)
  where
    none : (name : List ℕ) → false ≡ nat_le 2 (length (spots_of (all_rows ms) name))
    none name =
        let many : length (spots_of (all_rows ms) name) ≡ count_of (all_names ms) name = spots-counted (all_rows ms) name ∙ ap (λ ns. count_of ns name) (names-from 0 ms) in
        let most : count_of (all_names ms) name ≤ 1 = h name in
        sym (lt-leb 2 (length (spots_of (all_rows ms) name)) (omega (arith, many, most)))

-- What is given to the entries of modules, line by line.
use Rattle.std.proofs.Common.{◌≡◌, ℕ, zero, suc, ◌+◌, ◌-◌, ◌<◌, ◌≤◌, Bool, true, false, List, [], ◌∷◌, ◌++◌, length, map, set, append-nil, refl, sym, ap, ap₂, ◌∙◌, inl, inr, arith}
use Rattle.std.specs.Prelude.{◌==◌, ◌&&◌, cond, filter_map, find, is_some, option_map, replicate, slice_get, Option, Some, None}
use Rattle.std.specs.List.{enumerate_from}
use Rattle.std.specs.Option.{option_or}
use Rattle.std.proofs.lemmas.Bool.{cases_Bool, eqb-true, eq-eqb, ne_eqb}
use Rattle.std.proofs.lemmas.List.{length-map}
use Rattle.std.proofs.lemmas.Option.{slice_get_within}
use Rattle.std.proofs.lemmas.List.Elements.{filter_map-append}
use Rattle.std.proofs.lemmas.List.Folds.{find-append}
use Rattle.omf_records.specs.Values.{Rec}
use Rattle.omf_check.specs.Tables.{segments, groups, externals}
use Rattle.omf_placement.specs.declared.frame.Frame.{Frame}
use Rattle.omf_placement.specs.declared.frame.Placed.{Placed}
use Rattle.omf_linking.specs.Inner.Walking.{IsGiven, IsPut}
use Rattle.omf_linking.specs.Locator.Items.{Item, Nothing, Opened, Given, Ends, external_given, given_to, group_given, is_again, segment_given, stored_given}
use Rattle.omf_linking.specs.Locator.LinkEntries.{Target, SegmentPlace, StoredPlace, GroupFrame, ExternalPlace}
use Rattle.omf_linking.specs.Locator.Sparse.{Sparse, sparse_all, sparse_of}
use Rattle.omf_linking.specs.Locator.Keys.{count_from}

-- ---- what is given to an entry, with one more

or_none : {A : Type 0} (o : Option A) → option_or o None ≡ o
or_none None = refl
or_none (Some x) = refl

map_or : {A B : Type 0} (f : A → B) (o p : Option A) → option_map f (option_or o p) ≡ option_or (option_map f o) (option_map f p)
map_or f None p = refl
map_or f (Some x) p = refl

module _ {V : Type 0} (gs : List ((ℕ × ℕ) × V)) (j i : ℕ) (v : V) where
  one_more : (k l : ℕ) → given_to (gs ++ ((j, i), v) ∷ []) k l ≡ option_or (given_to gs k l) (cond ((j == k) && (i == l)) (Some v) None)
  one_more k l =
      let f = λ (g : (ℕ × ℕ) × V). (g.0.0 == k) && (g.0.1 == l) in
      ap (option_map (λ (g : (ℕ × ℕ) × V). g.1)) (find-append f gs (((j, i), v) ∷ []))
      ∙ map_or (λ (g : (ℕ × ℕ) × V). g.1) (find f gs) (find f (((j, i), v) ∷ []))
      ∙ ap (option_or (given_to gs k l)) (last_one ((j == k) && (i == l)))
    where
      last_one : (b : Bool) → option_map (λ (g : (ℕ × ℕ) × V). g.1) (cond b (Some ((j, i), v)) None) ≡ cond b (Some v) None
      last_one true = refl
      last_one false = refl

  pub given_here : given_to gs j i ≡ None → given_to (gs ++ ((j, i), v) ∷ []) j i ≡ Some v
  given_here e =
      one_more j i ∙ ap₂ (λ (a b : Bool). option_or (given_to gs j i) (cond (a && b) (Some v) None)) (eq-eqb j j refl) (eq-eqb i i refl)
      ∙ ap (λ (o : Option V). option_or o (Some v)) e

  pub given_elsewhere : (k l : ℕ) → ((j == k) && (i == l)) ≡ false → given_to (gs ++ ((j, i), v) ∷ []) k l ≡ given_to gs k l
  given_elsewhere k l e = one_more k l ∙ ap (λ (b : Bool). option_or (given_to gs k l) (cond b (Some v) None)) e ∙ or_none (given_to gs k l)

-- ---- tables by numbers

pub map_same : {A : Type 0} (f g : ℕ → A) (first n : ℕ) → ((k : ℕ) → first ≤ k → g k ≡ f k) → map g (count_from first n) ≡ map f (count_from first n)
map_same f g first zero h = refl
map_same f g first (suc n) h = ap₂ (λ x xs. x ∷ xs) (h first (omega arith)) (map_same f g (first + 1) n (λ k l. h k (omega arith)))

module _ {A : Type 0} (f g : ℕ → A) (i : ℕ) (v : A) (is : g i ≡ v) (others : (k : ℕ) → (i == k) ≡ false → g k ≡ f k) where
  pub map_set : (first n : ℕ) → first ≤ i → i < first + n → map g (count_from first n) ≡ set (map f (count_from first n)) (i - first) v
  map_set first zero low high = absurd (omega arith)
  map_set first (suc n) low high = elim (cases_Bool (i == first)) [
    | inl t ↦
        let e : i ≡ first = eqb-true i first t in
        let z : i - first ≡ 0 = omega arith in
        let head : g first ≡ v = ap g (sym e) ∙ is in
        rw z (ap₂ (λ x xs. x ∷ xs) head (map_same f g (first + 1) n (λ k l. others k (ne_eqb i k (λ q. omega arith)))))
    | inr t ↦
        let ne : first + 1 ≤ i = later i first t low in
        let s : i - first ≡ suc (i - (first + 1)) = omega arith in
        rw s (ap₂ (λ x xs. x ∷ xs) (others first t) (map_set (first + 1) n ne (omega arith)))
  ]
    where
      later : (a b : ℕ) → (a == b) ≡ false → b ≤ a → b + 1 ≤ a
      later a b t l = grind arith

pub slice_get_count : {A : Type 0} (f : ℕ → A) (first n i : ℕ) → first ≤ i → i < first + n → slice_get (map f (count_from first n)) (i - first) ≡ Some (f i)
slice_get_count f first zero i low high = absurd (omega arith)
slice_get_count f first (suc n) i low high = elim (cases_Bool (i == first)) [
  | inl t ↦
      let e : i ≡ first = eqb-true i first t in
      let z : i - first ≡ 0 = omega arith in
      rw z (ap (λ (k : ℕ). Some (f k)) (sym e))
  | inr t ↦
      let ne : first + 1 ≤ i = later i first t low in
      let s : i - first ≡ suc (i - (first + 1)) = omega arith in
      rw s (slice_get_count f (first + 1) n i ne (omega arith))
]
  where
    later : (a b : ℕ) → (a == b) ≡ false → b ≤ a → b + 1 ≤ a
    later a b t l = grind arith

-- ---- tables of modules

module _ {A M : Type 0} (f g : ℕ × M → A) where
  all_same : (first : ℕ) (ms : List M) → ((k : ℕ) (m : M) → first ≤ k → g (k, m) ≡ f (k, m)) → map g (enumerate_from first ms) ≡ map f (enumerate_from first ms)
  all_same first [] h = refl
  all_same first (m ∷ ms) h = ap₂ (λ x xs. x ∷ xs) (h first m (omega arith)) (all_same (first + 1) ms (λ k n l. h k n (omega arith)))

  module _ (j : ℕ) (others : (k : ℕ) (m : M) → (j == k) ≡ false → g (k, m) ≡ f (k, m)) where
    pub all_set : (first : ℕ) (ms : List M) (m : M) (v : A) → first ≤ j → slice_get ms (j - first) ≡ Some m → g (j, m) ≡ v → map g (enumerate_from first ms) ≡ set (map f (enumerate_from first ms)) (j - first) v
    all_set first [] m v low at is = absurd (none at)
      where
        none : slice_get [] (j - first) ≡ Some m → ⊥
        none e = cc
    all_set first (n ∷ ms) m v low at is = elim (cases_Bool (j == first)) [
      | inl t ↦
          let e : j ≡ first = eqb-true j first t in
          let z : j - first ≡ 0 = omega arith in
          let same : n ≡ m = some_same n m (rw z at at) in
          let head : g (first, n) ≡ v = ap₂ (λ k x. g (k, x)) (sym e) same ∙ is in
          rw z (ap₂ (λ x xs. x ∷ xs) head (all_same (first + 1) ms (λ k x l. others k x (ne_eqb j k (λ q. omega arith)))))
      | inr t ↦
          let ne : first + 1 ≤ j = later j first t low in
          let s : j - first ≡ suc (j - (first + 1)) = omega arith in
          rw s (ap₂ (λ x xs. x ∷ xs) (others first n t) (all_set (first + 1) ms m v ne (rw s at at) is))
    ]
      where
        some_same : (a b : M) → Some a ≡ Some b → a ≡ b
        some_same a b e = cc

        later : (a b : ℕ) → (a == b) ≡ false → b ≤ a → b + 1 ≤ a
        later a b t l = grind arith

pub slice_get_all : {A M : Type 0} (f : ℕ × M → A) (first j : ℕ) (ms : List M) (m : M) → slice_get ms j ≡ Some m → slice_get (map f (enumerate_from first ms)) j ≡ Some (f (first + j, m))
slice_get_all f first j [] m e = absurd cc
slice_get_all f first zero (n ∷ ms) m e = grind arith
slice_get_all f first (suc j) (n ∷ ms) m e = let r = slice_get_all f (first + 1) j ms m e in let s : first + 1 + j ≡ first + suc j = omega arith in rw s at r

-- ---- one more item

module _ (items : List Item) (x : Item) where
  more_segments : filter_map segment_given (items ++ x ∷ []) ≡ filter_map segment_given items ++ filter_map segment_given (x ∷ [])
  more_segments = filter_map-append segment_given items (x ∷ [])

  more_groups : filter_map group_given (items ++ x ∷ []) ≡ filter_map group_given items ++ filter_map group_given (x ∷ [])
  more_groups = filter_map-append group_given items (x ∷ [])

  more_externals : filter_map external_given (items ++ x ∷ []) ≡ filter_map external_given items ++ filter_map external_given (x ∷ [])
  more_externals = filter_map-append external_given items (x ∷ [])

  more_stored : filter_map stored_given (items ++ x ∷ []) ≡ filter_map stored_given items ++ filter_map stored_given (x ∷ [])
  more_stored = filter_map-append stored_given items (x ∷ [])

-- an item that gives nothing
abbrev NoSegment : Item → Type 0
NoSegment x = filter_map segment_given (x ∷ []) ≡ []

abbrev NoStored : Item → Type 0
NoStored x = filter_map stored_given (x ∷ []) ≡ []

abbrev NoGroup : Item → Type 0
NoGroup x = filter_map group_given (x ∷ []) ≡ []

abbrev NoExternal : Item → Type 0
NoExternal x = filter_map external_given (x ∷ []) ≡ []

same_segments : (items : List Item) (x : Item) → NoSegment x → filter_map segment_given (items ++ x ∷ []) ≡ filter_map segment_given items
same_segments items x e = more_segments items x ∙ ap (λ (ys : List ((ℕ × ℕ) × Placed)). filter_map segment_given items ++ ys) e ∙ append-nil (filter_map segment_given items)

same_stored : (items : List Item) (x : Item) → NoStored x → filter_map stored_given (items ++ x ∷ []) ≡ filter_map stored_given items
same_stored items x e = more_stored items x ∙ ap (λ (ys : List ((ℕ × ℕ) × ℕ)). filter_map stored_given items ++ ys) e ∙ append-nil (filter_map stored_given items)

same_groups : (items : List Item) (x : Item) → NoGroup x → filter_map group_given (items ++ x ∷ []) ≡ filter_map group_given items
same_groups items x e = more_groups items x ∙ ap (λ (ys : List ((ℕ × ℕ) × Option Frame)). filter_map group_given items ++ ys) e ∙ append-nil (filter_map group_given items)

same_externals : (items : List Item) (x : Item) → NoExternal x → filter_map external_given (items ++ x ∷ []) ≡ filter_map external_given items
same_externals items x e = more_externals items x ∙ ap (λ (ys : List ((ℕ × ℕ) × Placed)). filter_map external_given items ++ ys) e ∙ append-nil (filter_map external_given items)

-- a module's tables by the entries given
abbrev tables : List ((ℕ × ℕ) × Placed) → List ((ℕ × ℕ) × ℕ) → List ((ℕ × ℕ) × Option Frame) → List ((ℕ × ℕ) × Placed) → ℕ × List Rec → Sparse
tables ss st gs es m = record {
  segments = map (given_to ss m.0) (count_from 1 (length (segments m.1)));
  stored = map (given_to st m.0) (count_from 1 (length (segments m.1)));
  groups = map (given_to gs m.0) (count_from 1 (length (groups m.1)));
  externals = map (given_to es m.0) (count_from 1 (length (externals m.1)));
}

tables_same : (ss ts : List ((ℕ × ℕ) × Placed)) (st su : List ((ℕ × ℕ) × ℕ)) (gs hs : List ((ℕ × ℕ) × Option Frame)) (es fs : List ((ℕ × ℕ) × Placed)) (m : ℕ × List Rec) → ss ≡ ts → st ≡ su → gs ≡ hs → es ≡ fs → tables ss st gs es m ≡ tables ts su hs fs m
tables_same ss ts st su gs hs es fs m a d b c = rw (a, d, b, c) refl

pub nothing_more : (items : List Item) (x : Item) (m : ℕ × List Rec) → NoSegment x → NoStored x → NoGroup x → NoExternal x → sparse_of (items ++ x ∷ []) m ≡ sparse_of items m
nothing_more items x m a d b c = tables_same _ _ _ _ _ _ _ _ m (same_segments items x a) (same_stored items x d) (same_groups items x b) (same_externals items x c)

pub all_nothing_more : (items : List Item) (x : Item) (ms : List (List Rec)) → NoSegment x → NoStored x → NoGroup x → NoExternal x → sparse_all ms (items ++ x ∷ []) ≡ sparse_all ms items
all_nothing_more items x ms a d b c = all_same (sparse_of items) (sparse_of (items ++ x ∷ [])) 0 ms (λ k m l. nothing_more items x (k, m) a d b c)

-- ---- one more entry of a table

module _ {V : Type 0} (gs : List ((ℕ × ℕ) × V)) (j i : ℕ) (v : V) (n : ℕ) where
  table_here : given_to gs j i ≡ None → 1 ≤ i → i < 1 + n → map (given_to (gs ++ ((j, i), v) ∷ []) j) (count_from 1 n) ≡ set (map (given_to gs j) (count_from 1 n)) (i - 1) (Some v)
  table_here e low high =
      map_set (given_to gs j) (given_to (gs ++ ((j, i), v) ∷ []) j) i (Some v) (given_here gs j i v e)
      (λ k t. given_elsewhere gs j i v j k (ap₂ (λ (a b : Bool). a && b) (eq-eqb j j refl) t)) 1 n low high

  table_other : (k : ℕ) → (j == k) ≡ false → map (given_to (gs ++ ((j, i), v) ∷ []) k) (count_from 1 n) ≡ map (given_to gs k) (count_from 1 n)
  table_other k e = map_same (given_to gs k) (given_to (gs ++ ((j, i), v) ∷ []) k) 1 n (λ l low. given_elsewhere gs j i v k l (ap (λ (b : Bool). b && (i == l)) e))

-- an item that gives something to another module
sparse_same : (a b : List (Option Placed)) (g h : List (Option ℕ)) (c d : List (Option (Option Frame))) (e f : List (Option Placed)) → a ≡ b → g ≡ h → c ≡ d → e ≡ f
    → ◌≡◌ {A = Sparse} (record { segments = a; stored = g; groups = c; externals = e }) (record { segments = b; stored = h; groups = d; externals = f })
sparse_same a b g h c d e f p s q r = rw (p, s, q, r) refl

pub other_module : (items : List Item) (j i : ℕ) (t : Target) (k : ℕ) (m : List Rec) → (j == k) ≡ false → sparse_of (items ++ Given j i t ∷ []) (k, m) ≡ sparse_of items (k, m)
other_module items j i (SegmentPlace p) k m e =
    let x = Given j i (SegmentPlace p) in
    sparse_same _ _ _ _ _ _ _ _
    (ap (λ (gs : List ((ℕ × ℕ) × Placed)). map (given_to gs k) (count_from 1 (length (segments m)))) (more_segments items x) ∙ table_other (filter_map segment_given items) j i p (length (segments m)) k e)
    (ap (λ (gs : List ((ℕ × ℕ) × ℕ)). map (given_to gs k) (count_from 1 (length (segments m)))) (same_stored items x refl))
    (ap (λ (gs : List ((ℕ × ℕ) × Option Frame)). map (given_to gs k) (count_from 1 (length (groups m)))) (same_groups items x refl))
    (ap (λ (gs : List ((ℕ × ℕ) × Placed)). map (given_to gs k) (count_from 1 (length (externals m)))) (same_externals items x refl))
other_module items j i (StoredPlace p s) k m e =
    let x = Given j i (StoredPlace p s) in
    sparse_same _ _ _ _ _ _ _ _
    (ap (λ (gs : List ((ℕ × ℕ) × Placed)). map (given_to gs k) (count_from 1 (length (segments m)))) (more_segments items x) ∙ table_other (filter_map segment_given items) j i p (length (segments m)) k e)
    (ap (λ (gs : List ((ℕ × ℕ) × ℕ)). map (given_to gs k) (count_from 1 (length (segments m)))) (more_stored items x) ∙ table_other (filter_map stored_given items) j i s (length (segments m)) k e)
    (ap (λ (gs : List ((ℕ × ℕ) × Option Frame)). map (given_to gs k) (count_from 1 (length (groups m)))) (same_groups items x refl))
    (ap (λ (gs : List ((ℕ × ℕ) × Placed)). map (given_to gs k) (count_from 1 (length (externals m)))) (same_externals items x refl))
other_module items j i (GroupFrame f) k m e =
    let x = Given j i (GroupFrame f) in
    sparse_same _ _ _ _ _ _ _ _
    (ap (λ (gs : List ((ℕ × ℕ) × Placed)). map (given_to gs k) (count_from 1 (length (segments m)))) (same_segments items x refl))
    (ap (λ (gs : List ((ℕ × ℕ) × ℕ)). map (given_to gs k) (count_from 1 (length (segments m)))) (same_stored items x refl))
    (ap (λ (gs : List ((ℕ × ℕ) × Option Frame)). map (given_to gs k) (count_from 1 (length (groups m)))) (more_groups items x) ∙ table_other (filter_map group_given items) j i f (length (groups m)) k e)
    (ap (λ (gs : List ((ℕ × ℕ) × Placed)). map (given_to gs k) (count_from 1 (length (externals m)))) (same_externals items x refl))
other_module items j i (ExternalPlace p) k m e =
    let x = Given j i (ExternalPlace p) in
    sparse_same _ _ _ _ _ _ _ _
    (ap (λ (gs : List ((ℕ × ℕ) × Placed)). map (given_to gs k) (count_from 1 (length (segments m)))) (same_segments items x refl))
    (ap (λ (gs : List ((ℕ × ℕ) × ℕ)). map (given_to gs k) (count_from 1 (length (segments m)))) (same_stored items x refl))
    (ap (λ (gs : List ((ℕ × ℕ) × Option Frame)). map (given_to gs k) (count_from 1 (length (groups m)))) (same_groups items x refl))
    (ap (λ (gs : List ((ℕ × ℕ) × Placed)). map (given_to gs k) (count_from 1 (length (externals m)))) (more_externals items x) ∙ table_other (filter_map external_given items) j i p (length (externals m)) k e)

pub length_count : (first n : ℕ) → length (count_from first n) ≡ n
length_count first zero = refl
length_count first (suc n) = ap suc (length_count (first + 1) n)

-- a table of which one entry is put
module _ {V : Type 0} (gs : List ((ℕ × ℕ) × V)) (j i : ℕ) (v : V) (n : ℕ) (old new : List (Option V)) (is : old ≡ map (given_to gs j) (count_from 1 n)) where
  reach_of : slice_get old (i - 1) ≡ Some None → 1 ≤ i → i < 1 + n
  reach_of at low =
      let k = slice_get_within old (i - 1) None at in
      let l : length old ≡ n = ap length is ∙ length-map (count_from 1 n) (given_to gs j) ∙ length_count 1 n in
      omega (arith, k, l)

  none_there : slice_get old (i - 1) ≡ Some None → 1 ≤ i → given_to gs j i ≡ None
  none_there at low =
      let high = reach_of at low in
      let it : slice_get old (i - 1) ≡ Some (given_to gs j i) = ap (λ (t : List (Option V)). slice_get t (i - 1)) is ∙ slice_get_count (given_to gs j) 1 n i low high in
      same_inner (given_to gs j i) None (sym it ∙ at)
    where
      same_inner : (a b : Option V) → Some a ≡ Some b → a ≡ b
      same_inner a b e = cc

  put_here : slice_get old (i - 1) ≡ Some None → 1 ≤ i → new ≡ set old (i - 1) (Some v) → new ≡ map (given_to (gs ++ ((j, i), v) ∷ []) j) (count_from 1 n)
  put_here at low e =
      e ∙ ap (λ (t : List (Option V)). set t (i - 1) (Some v)) is ∙ sym (table_here gs j i v n (none_there at low) low (reach_of at low))

  some_there : ((x : Option V) → 1 ≤ i → slice_get old (i - 1) ≡ Some x → is_some x ≡ true) → 1 ≤ i → i ≤ n → is_some (given_to gs j i) ≡ true
  some_there h low high = h (given_to gs j i) low (ap (λ (t : List (Option V)). slice_get t (i - 1)) is ∙ slice_get_count (given_to gs j) 1 n i low (omega arith))

-- a segment without a place is stored nowhere
no_more : {V W : Type 0} (b : Bool) (x : V) (y : W) (o : Option V) (p : Option W) → (o ≡ None → p ≡ None) → cond b (Some x) o ≡ None → cond b (Some y) p ≡ None
no_more true x y o p h e = absurd cc
no_more false x y o p h e = h e

unmapped : {A B : Type 0} (f : A → B) (o : Option A) → option_map f o ≡ None → o ≡ None
unmapped f None e = refl
unmapped f (Some a) e = absurd cc

none_found : (items : List Item) (j i : ℕ) → find (λ (g : (ℕ × ℕ) × Placed). (g.0.0 == j) && (g.0.1 == i)) (filter_map segment_given items) ≡ None → find (λ (g : (ℕ × ℕ) × ℕ). (g.0.0 == j) && (g.0.1 == i)) (filter_map stored_given items) ≡ None
none_found [] j i e = refl
none_found (Nothing ∷ items) j i e = none_found items j i e
none_found (Opened k ∷ items) j i e = none_found items j i e
none_found (Ends d ∷ items) j i e = none_found items j i e
none_found (Given a b (SegmentPlace p) ∷ items) j i e = none_found items j i (left ((a == j) && (b == i)) ((a, b), p) _ e)
  where
    left : {V : Type 0} (t : Bool) (x : V) (o : Option V) → cond t (Some x) o ≡ None → o ≡ None
    left true x o e = absurd cc
    left false x o e = e
none_found (Given a b (StoredPlace p s) ∷ items) j i e = no_more ((a == j) && (b == i)) ((a, b), p) ((a, b), s) _ _ (none_found items j i) e
none_found (Given a b (GroupFrame f) ∷ items) j i e = none_found items j i e
none_found (Given a b (ExternalPlace p) ∷ items) j i e = none_found items j i e

none_stored : (items : List Item) (j i : ℕ) → given_to (filter_map segment_given items) j i ≡ None → given_to (filter_map stored_given items) j i ≡ None
none_stored items j i e = ap (option_map (λ (g : (ℕ × ℕ) × ℕ). g.1)) (none_found items j i (unmapped (λ (g : (ℕ × ℕ) × Placed). g.1) _ e))

-- an entry of a module is given something
module _ (items : List Item) (j i : ℕ) (m : List Rec) (old new : Sparse) (is : old ≡ sparse_of items (j, m)) where
  pub segment_put : (p : Placed) → IsPut i p old.segments new.segments true → new.stored ≡ old.stored → new.groups ≡ old.groups → new.externals ≡ old.externals
      → (is_again items (Given j i (SegmentPlace p)) ≡ false) × (new ≡ sparse_of (items ++ Given j i (SegmentPlace p) ∷ []) (j, m))
  segment_put p put st g e =
      let x = Given j i (SegmentPlace p) in
      let own = ap (λ (s : Sparse). s.segments) is in (
        ap is_some (none_there (filter_map segment_given items) j i p (length (segments m)) old.segments new.segments own put.1 put.0),
        sparse_same _ _ _ _ _ _ _ _
            (put_here (filter_map segment_given items) j i p (length (segments m)) old.segments new.segments own put.1 put.0 put.2
            ∙ ap (λ (gs : List ((ℕ × ℕ) × Placed)). map (given_to gs j) (count_from 1 (length (segments m)))) (sym (more_segments items x)))
            (st ∙ ap (λ (s : Sparse). s.stored) is ∙ ap (λ (gs : List ((ℕ × ℕ) × ℕ)). map (given_to gs j) (count_from 1 (length (segments m)))) (sym (same_stored items x refl)))
            (g ∙ ap (λ (s : Sparse). s.groups) is ∙ ap (λ (gs : List ((ℕ × ℕ) × Option Frame)). map (given_to gs j) (count_from 1 (length (groups m)))) (sym (same_groups items x refl)))
            (e ∙ ap (λ (s : Sparse). s.externals) is ∙ ap (λ (gs : List ((ℕ × ℕ) × Placed)). map (given_to gs j) (count_from 1 (length (externals m)))) (sym (same_externals items x refl))),
      )

  pub stored_put : (p : Placed) (s : ℕ) → IsPut i p old.segments new.segments true → new.stored ≡ set old.stored (i - 1) (Some s) → new.groups ≡ old.groups → new.externals ≡ old.externals
      → (is_again items (Given j i (StoredPlace p s)) ≡ false) × (new ≡ sparse_of (items ++ Given j i (StoredPlace p s) ∷ []) (j, m))
  stored_put p s put st g e =
      let x = Given j i (StoredPlace p s) in
      let own = ap (λ (s : Sparse). s.segments) is in
      let none = none_there (filter_map segment_given items) j i p (length (segments m)) old.segments new.segments own put.1 put.0 in
      let high = reach_of (filter_map segment_given items) j i p (length (segments m)) old.segments new.segments own put.1 put.0 in (
        ap is_some none,
        sparse_same _ _ _ _ _ _ _ _
            (put_here (filter_map segment_given items) j i p (length (segments m)) old.segments new.segments own put.1 put.0 put.2
            ∙ ap (λ (gs : List ((ℕ × ℕ) × Placed)). map (given_to gs j) (count_from 1 (length (segments m)))) (sym (more_segments items x)))
            (st ∙ ap (λ (t : Sparse). set t.stored (i - 1) (Some s)) is
            ∙ sym (table_here (filter_map stored_given items) j i s (length (segments m)) (none_stored items j i none) put.0 high)
            ∙ ap (λ (gs : List ((ℕ × ℕ) × ℕ)). map (given_to gs j) (count_from 1 (length (segments m)))) (sym (more_stored items x)))
            (g ∙ ap (λ (s : Sparse). s.groups) is ∙ ap (λ (gs : List ((ℕ × ℕ) × Option Frame)). map (given_to gs j) (count_from 1 (length (groups m)))) (sym (same_groups items x refl)))
            (e ∙ ap (λ (s : Sparse). s.externals) is ∙ ap (λ (gs : List ((ℕ × ℕ) × Placed)). map (given_to gs j) (count_from 1 (length (externals m)))) (sym (same_externals items x refl))),
      )

  pub group_put : (f : Option Frame) → IsPut i f old.groups new.groups true → new.segments ≡ old.segments → new.stored ≡ old.stored → new.externals ≡ old.externals
      → (is_again items (Given j i (GroupFrame f)) ≡ false) × (new ≡ sparse_of (items ++ Given j i (GroupFrame f) ∷ []) (j, m))
  group_put f put g st e =
      let x = Given j i (GroupFrame f) in
      let own = ap (λ (s : Sparse). s.groups) is in (
        ap is_some (none_there (filter_map group_given items) j i f (length (groups m)) old.groups new.groups own put.1 put.0),
        sparse_same _ _ _ _ _ _ _ _
            (g ∙ ap (λ (s : Sparse). s.segments) is ∙ ap (λ (gs : List ((ℕ × ℕ) × Placed)). map (given_to gs j) (count_from 1 (length (segments m)))) (sym (same_segments items x refl)))
            (st ∙ ap (λ (s : Sparse). s.stored) is ∙ ap (λ (gs : List ((ℕ × ℕ) × ℕ)). map (given_to gs j) (count_from 1 (length (segments m)))) (sym (same_stored items x refl)))
            (put_here (filter_map group_given items) j i f (length (groups m)) old.groups new.groups own put.1 put.0 put.2
            ∙ ap (λ (gs : List ((ℕ × ℕ) × Option Frame)). map (given_to gs j) (count_from 1 (length (groups m)))) (sym (more_groups items x)))
            (e ∙ ap (λ (s : Sparse). s.externals) is ∙ ap (λ (gs : List ((ℕ × ℕ) × Placed)). map (given_to gs j) (count_from 1 (length (externals m)))) (sym (same_externals items x refl))),
      )

  pub external_put : (p : Placed) → IsPut i p old.externals new.externals true → new.segments ≡ old.segments → new.stored ≡ old.stored → new.groups ≡ old.groups
      → (is_again items (Given j i (ExternalPlace p)) ≡ false) × (new ≡ sparse_of (items ++ Given j i (ExternalPlace p) ∷ []) (j, m))
  external_put p put g st e =
      let x = Given j i (ExternalPlace p) in
      let own = ap (λ (s : Sparse). s.externals) is in (
        ap is_some (none_there (filter_map external_given items) j i p (length (externals m)) old.externals new.externals own put.1 put.0),
        sparse_same _ _ _ _ _ _ _ _
            (g ∙ ap (λ (s : Sparse). s.segments) is ∙ ap (λ (gs : List ((ℕ × ℕ) × Placed)). map (given_to gs j) (count_from 1 (length (segments m)))) (sym (same_segments items x refl)))
            (st ∙ ap (λ (s : Sparse). s.stored) is ∙ ap (λ (gs : List ((ℕ × ℕ) × ℕ)). map (given_to gs j) (count_from 1 (length (segments m)))) (sym (same_stored items x refl)))
            (e ∙ ap (λ (s : Sparse). s.groups) is ∙ ap (λ (gs : List ((ℕ × ℕ) × Option Frame)). map (given_to gs j) (count_from 1 (length (groups m)))) (sym (same_groups items x refl)))
            (put_here (filter_map external_given items) j i p (length (externals m)) old.externals new.externals own put.1 put.0 put.2
            ∙ ap (λ (gs : List ((ℕ × ℕ) × Placed)). map (given_to gs j) (count_from 1 (length (externals m)))) (sym (more_externals items x))),
      )

  pub segment_again : (p : Placed) → IsPut i p old.segments new.segments false → 1 ≤ i → i ≤ length (segments m) → is_again items (Given j i (SegmentPlace p)) ≡ true
  segment_again p put low high = some_there (filter_map segment_given items) j i p (length (segments m)) old.segments new.segments (ap (λ (s : Sparse). s.segments) is) put.1 low high

  pub stored_again : (p : Placed) (s : ℕ) → IsPut i p old.segments new.segments false → 1 ≤ i → i ≤ length (segments m) → is_again items (Given j i (StoredPlace p s)) ≡ true
  stored_again p s put low high = some_there (filter_map segment_given items) j i p (length (segments m)) old.segments new.segments (ap (λ (s : Sparse). s.segments) is) put.1 low high

  pub group_again : (f : Option Frame) → IsPut i f old.groups new.groups false → 1 ≤ i → i ≤ length (groups m) → is_again items (Given j i (GroupFrame f)) ≡ true
  group_again f put low high = some_there (filter_map group_given items) j i f (length (groups m)) old.groups new.groups (ap (λ (s : Sparse). s.groups) is) put.1 low high

  pub external_again : (p : Placed) → IsPut i p old.externals new.externals false → 1 ≤ i → i ≤ length (externals m) → is_again items (Given j i (ExternalPlace p)) ≡ true
  external_again p put low high = some_there (filter_map external_given items) j i p (length (externals m)) old.externals new.externals (ap (λ (s : Sparse). s.externals) is) put.1 low high

module _ (m : ℕ × List Rec) (i : ℕ) (old new : Sparse) where
  pub segment_given_by : (b : Bool) (p : Placed) → IsPut i p old.segments new.segments b → new.stored ≡ old.stored → new.groups ≡ old.groups → new.externals ≡ old.externals → IsGiven m i (SegmentPlace p) old new b
  segment_given_by true p put st g e = λ items is. segment_put items m.0 i m.1 old new is p put st g e
  segment_given_by false p put st g e = λ items is low high. segment_again items m.0 i m.1 old new is p put low high

  pub stored_given_by : (b : Bool) (p : Placed) (s : ℕ) → IsPut i p old.segments new.segments b → (b ≡ true → new.stored ≡ set old.stored (i - 1) (Some s)) → new.groups ≡ old.groups → new.externals ≡ old.externals → IsGiven m i (StoredPlace p s) old new b
  stored_given_by true p s put st g e = λ items is. stored_put items m.0 i m.1 old new is p s put (st refl) g e
  stored_given_by false p s put st g e = λ items is low high. stored_again items m.0 i m.1 old new is p s put low high

  pub group_given_by : (b : Bool) (f : Option Frame) → IsPut i f old.groups new.groups b → new.segments ≡ old.segments → new.stored ≡ old.stored → new.externals ≡ old.externals → IsGiven m i (GroupFrame f) old new b
  group_given_by true f put g st e = λ items is. group_put items m.0 i m.1 old new is f put g st e
  group_given_by false f put g st e = λ items is low high. group_again items m.0 i m.1 old new is f put low high

  pub external_given_by : (b : Bool) (p : Placed) → IsPut i p old.externals new.externals b → new.segments ≡ old.segments → new.stored ≡ old.stored → new.groups ≡ old.groups → IsGiven m i (ExternalPlace p) old new b
  external_given_by true p put g st e = λ items is. external_put items m.0 i m.1 old new is p put g st e
  external_given_by false p put g st e = λ items is low high. external_again items m.0 i m.1 old new is p put low high

-- a module's tables with nothing given
none_each : {V : Type 0} (j first n : ℕ) → map (given_to {V = V} [] j) (count_from first n) ≡ replicate n None
none_each j first zero = refl
none_each {V} j first (suc n) = ap (λ (xs : List (Option V)). None ∷ xs) (none_each {V = V} j (first + 1) n)

pub nothing_given : (j : ℕ) (m : List Rec) (a : List (Option Placed)) (d : List (Option ℕ)) (b : List (Option (Option Frame))) (c : List (Option Placed))
    → a ≡ replicate (length (segments m)) None → d ≡ replicate (length (segments m)) None → b ≡ replicate (length (groups m)) None → c ≡ replicate (length (externals m)) None → ◌≡◌ {A = Sparse} (record { segments = a; stored = d; groups = b; externals = c }) (sparse_of [] (j, m))
nothing_given j m a d b c e h f g =
    sparse_same _ _ _ _ _ _ _ _ (e ∙ sym (none_each {V = Placed} j 1 (length (segments m)))) (h ∙ sym (none_each {V = ℕ} j 1 (length (segments m)))) (f ∙ sym (none_each {V = Option Frame} j 1 (length (groups m)))) (g ∙ sym (none_each {V = Placed} j 1 (length (externals m))))

-- The items of a draft's lines, and what they give each module.
use Rattle.std.proofs.Common.{◌≡◌, ℕ, zero, suc, ◌+◌, ◌<◌, ◌≤◌, Bool, true, false, ◌&&◌, List, [], ◌∷◌, ◌++◌, length, refl, sym, ap, ap₂, subst, ◌∙◌, ◌⊎◌, inl, inr, append_assoc, append-nil, arith, cond}
use Rattle.std.specs.Prelude.{map, filter_map, Option, Some, None, option_map, option_and_then, is_some, slice_get, Result, Ok, Err, find, not, bytes_eq, ◌==◌, ◌||◌, zip, if◌then◌else◌}
use Rattle.omf_linking.proofs.KeyNames.{keys-name, keys-name-module}
use Rattle.std.specs.List.{AllZip, cons_option, enumerate_from, last_or, list_any}
use Rattle.std.specs.Option.{option_map_or, option_or}
use Rattle.std.proofs.lemmas.Bool.{and_from, eq-eqb, ne_eqb, cases_Bool, cond-true, eqb-true, and_parts, false≢true}
use Rattle.std.proofs.lemmas.List.Elements.{filter_map-append}
use Rattle.std.proofs.lemmas.List.Folds.{find-append, list_any-append}
use Rattle.std.proofs.lemmas.Option.{none-some, same_Some}
use Rattle.std.proofs.lemmas.Slice.Eq.{bytes_eq-Decides}
use Rattle.omf_frame.specs.Bytes.{last}
use Rattle.omf_records.specs.Values.{Rec}
use Rattle.omf_records.specs.Inner.Seen.{map_ok}
use Rattle.omf_check.specs.Tables.{externals, segments}
use Rattle.omf_placement.specs.declared.frame.Frame.{Frame}
use Rattle.omf_placement.specs.declared.frame.Placed.{Placed}
use Rattle.omf_placement.specs.Placement.{Places}
use Rattle.omf_reloc.specs.declared.fault.Kind.TheVariants as kinds
use Rattle.omf_placement.proofs.ListLaws.{told-append}
use Rattle.omf_linking.specs.Locator.Items.{Item, Nothing, Opened, Given, alone, opened, current, segment_given, group_given, external_given, stored_given, given_to, segment_place, stored_address, group_frame, external_place, Title, first_titled, given_at, group_title, in_quotes, is_titled, item_in, items_of, items_after, module_at, or_unshared, segment_framed, segment_title, shared_frame, unless_again}
use Rattle.omf_linking.specs.Locator.Keys.{count_from, entry_named}
use Rattle.omf_linking.specs.Locator.LinkEntries.{Key, SegmentPlace, GroupFrame, Told, Own, SharedPlace, SharedFrame, LinkEntry, Blank, Opens, Gives, Line}
use Rattle.omf_linking.specs.Locator.Sparse.{Sparse, sparse_of, sparse_all}
use Rattle.omf_linking.specs.declared.locator.fault.LineFault.{LineFault}
use Rattle.omf_linking.specs.declared.locator.fault.LineFault.TheVariants as why
use Rattle.omf_linking.specs.declared.locator.fault.LocatorFault.TheVariants as fault
use Rattle.omf_linking.specs.Locator.Drafted.{AllNamed, AreNamed, AreShared, HasEntries, Labels, Sharing, all_groups, all_lines, all_segments, blanks, group_lines_of, group_told, groups_framed, is_same, is_sharing, labels_from, module_lines, segment_lines_of, segment_told, segments_framed, sharing, told_from, told_places}

-- ---- what is given

or-none : {A : Type 0} (o : Option A) → option_or o None ≡ o
or-none None = refl
or-none (Some x) = refl

map-or : {A B : Type 0} (f : A → B) (o p : Option A) → option_map f (option_or o p) ≡ option_or (option_map f o) (option_map f p)
map-or f None p = refl
map-or f (Some x) p = refl

module _ {V : Type 0} where
  given-both : (gs hs : List ((ℕ × ℕ) × V)) (j i : ℕ) → given_to (gs ++ hs) j i ≡ option_or (given_to gs j i) (given_to hs j i)
  given-both gs hs j i =
      let p : (ℕ × ℕ) × V → _ = λ g. (g.0.0 == j) && (g.0.1 == i) in
      ap (option_map (λ g. g.1)) (find-append p gs hs) ∙ map-or (λ g. g.1) (find p gs) (find p hs)

  given-here : (gs : List ((ℕ × ℕ) × V)) (j i : ℕ) (v : V) → given_to gs j i ≡ None → given_to (gs ++ ((j, i), v) ∷ []) j i ≡ Some v
  given-here gs j i v none =
      let x : (ℕ × ℕ) × V = ((j, i), v) in
      given-both gs (x ∷ []) j i ∙ ap (λ o. option_or o (given_to (x ∷ []) j i)) none
      ∙ ap (λ b. option_map (λ g. g.1) (cond b (Some x) None)) (and_from (j == j) (i == i) (eq-eqb j j refl) (eq-eqb i i refl))

  given-kept : (gs hs : List ((ℕ × ℕ) × V)) (j i : ℕ) (v : V) → given_to gs j i ≡ Some v → given_to (gs ++ hs) j i ≡ Some v
  given-kept gs hs j i v h = given-both gs hs j i ∙ ap (λ o. option_or o (given_to hs j i)) h

  given-other : (gs : List ((ℕ × ℕ) × V)) (a b : ℕ) (v : V) (j i : ℕ) → ((a == j) && (b == i)) ≡ false → given_to (gs ++ ((a, b), v) ∷ []) j i ≡ given_to gs j i
  given-other gs a b v j i h =
      let x : (ℕ × ℕ) × V = ((a, b), v) in
      given-both gs (x ∷ []) j i ∙ ap (λ t. option_or (given_to gs j i) (option_map (λ g. g.1) (cond t (Some x) None))) h ∙ or-none (given_to gs j i)

-- Later than the entry s of module j.
abbrev IsLater : ℕ → ℕ → ℕ → ℕ → Type 0
IsLater j s a i = (j < a) ⊎ ((a ≡ j) × (s ≤ i))

other-later : (j s a i : ℕ) → IsLater j (s + 1) a i → ((j == a) && (s == i)) ≡ false
other-later j s a i later = elim (cases_Bool ((j == a) && (s == i))) [
  | inl t ↦
      let both = and_parts (j == a) (s == i) t in
      let e = eqb-true j a both.0 in
      let f = eqb-true s i both.1 in
      absurd (elim later [ inl low ↦ omega (arith, e, low) | inr k ↦ omega (arith, f, k.1) ])
  | inr t ↦ t
]

wider : (j s a i : ℕ) → IsLater j (s + 1) a i → IsLater j s a i
wider j s a i later = elim later [ inl low ↦ inl low | inr k ↦ inr (k.0, omega (arith, k.1)) ]

-- What an item adds to what is picked.
picked-more : {A B : Type 0} (pick : A → Option B) (xs : List A) (x : A) (o : Option B) → pick x ≡ o → filter_map pick (xs ++ x ∷ []) ≡ filter_map pick xs ++ cons_option o []
picked-more pick xs x o e = filter_map-append pick xs (x ∷ []) ∙ ap (λ p. filter_map pick xs ++ cons_option p []) e

picked-same : {A B : Type 0} (pick : A → Option B) (xs : List A) (x : A) → pick x ≡ None → filter_map pick (xs ++ x ∷ []) ≡ filter_map pick xs
picked-same pick xs x e = picked-more pick xs x None e ∙ append-nil (filter_map pick xs)

last-more : {A : Type 0} (o : Option A) (xs : List A) (x : A) → last_or o (xs ++ x ∷ []) ≡ Some x
last-more o [] x = refl
last-more o (y ∷ xs) x = last-more (Some y) xs x

-- ---- the state of a reading: nothing is given from module j on; or module j is open, and nothing is given from its segment s and its group g on

pub record IsClosed (before : List Item) (j : ℕ) : Type 0 where
  pub segments : (a i : ℕ) → j ≤ a → segment_place before a i ≡ None
  pub groups : (a i : ℕ) → j ≤ a → group_frame before a i ≡ None
  pub modules : (a : ℕ) → j ≤ a → list_any (λ k. k == a) (filter_map opened before) ≡ false
  pub externals : filter_map external_given before ≡ []
  pub stored : filter_map stored_given before ≡ []

record IsOpen (before : List Item) (j s g : ℕ) : Type 0 where
  pub current : current before ≡ Some j
  pub segments : (a i : ℕ) → IsLater j s a i → segment_place before a i ≡ None
  pub groups : (a i : ℕ) → IsLater j g a i → group_frame before a i ≡ None
  pub modules : (a : ℕ) → j < a → list_any (λ k. k == a) (filter_map opened before) ≡ false
  pub externals : filter_map external_given before ≡ []
  pub stored : filter_map stored_given before ≡ []

pub none-closed : IsClosed [] 0
none-closed = record { segments = λ a i h. refl; groups = λ a i h. refl; modules = λ a h. refl; externals = refl; stored = refl }

later-than : (j s a i : ℕ) → IsLater j s a i → j ≤ a
later-than j s a i later = elim later [ inl low ↦ omega (arith, low) | inr k ↦ omega (arith, k.0) ]

opens : (before : List Item) (j : ℕ) → IsClosed before j → IsOpen (before ++ Opened j ∷ []) j 1 1
opens before j h =
    let x = Opened j in
    let listed : filter_map opened (before ++ x ∷ []) ≡ filter_map opened before ++ j ∷ [] = picked-more opened before x (Some j) refl in
    record {
      current = ap last listed ∙ last-more None (filter_map opened before) j;
      segments = λ a i later. ap (λ gs. given_to gs a i) (picked-same segment_given before x refl) ∙ h.segments a i (later-than j 1 a i later);
      groups = λ a i later. ap (λ gs. given_to gs a i) (picked-same group_given before x refl) ∙ h.groups a i (later-than j 1 a i later);
      modules = λ a low. ap (list_any (λ k. k == a)) listed ∙ list_any-append (λ k. k == a) (filter_map opened before) (j ∷ [])
          ∙ ap₂ (λ b c. b || (c || false)) (h.modules a (omega (arith, low))) (ne_eqb j a (λ e. absurd (omega (arith, e, low))));
      externals = picked-same external_given before x refl ∙ h.externals;
      stored = picked-same stored_given before x refl ∙ h.stored;
    }

gives-segment : (before : List Item) (j s g : ℕ) (p : Placed) → IsOpen before j s g → IsOpen (before ++ Given j s (SegmentPlace p) ∷ []) j (s + 1) g
gives-segment before j s g p h =
    let x = Given j s (SegmentPlace p) in record {
      current = ap last (picked-same opened before x refl) ∙ h.current;
      segments = λ a i later. ap (λ gs. given_to gs a i) (picked-more segment_given before x (Some ((j, s), p)) refl) ∙ given-other (filter_map segment_given before) j s p a i (other-later j s a i later) ∙ h.segments a i (wider j s a i later);
      groups = λ a i later. ap (λ gs. given_to gs a i) (picked-same group_given before x refl) ∙ h.groups a i later;
      modules = λ a low. ap (list_any (λ k. k == a)) (picked-same opened before x refl) ∙ h.modules a low;
      externals = picked-same external_given before x refl ∙ h.externals;
      stored = picked-same stored_given before x refl ∙ h.stored;
    }

gives-group : (before : List Item) (j s g : ℕ) (f : Option Frame) → IsOpen before j s g → IsOpen (before ++ Given j g (GroupFrame f) ∷ []) j s (g + 1)
gives-group before j s g f h =
    let x = Given j g (GroupFrame f) in record {
      current = ap last (picked-same opened before x refl) ∙ h.current;
      segments = λ a i later. ap (λ gs. given_to gs a i) (picked-same segment_given before x refl) ∙ h.segments a i later;
      groups = λ a i later. ap (λ gs. given_to gs a i) (picked-more group_given before x (Some ((j, g), f)) refl) ∙ given-other (filter_map group_given before) j g f a i (other-later j g a i later) ∙ h.groups a i (wider j g a i later);
      modules = λ a low. ap (list_any (λ k. k == a)) (picked-same opened before x refl) ∙ h.modules a low;
      externals = picked-same external_given before x refl ∙ h.externals;
      stored = picked-same stored_given before x refl ∙ h.stored;
    }

does-nothing : (before : List Item) (j s g : ℕ) → IsOpen before j s g → IsOpen (before ++ Nothing ∷ []) j s g
does-nothing before j s g h = record {
  current = ap last (picked-same opened before Nothing refl) ∙ h.current;
  segments = λ a i later. ap (λ gs. given_to gs a i) (picked-same segment_given before Nothing refl) ∙ h.segments a i later;
  groups = λ a i later. ap (λ gs. given_to gs a i) (picked-same group_given before Nothing refl) ∙ h.groups a i later;
  modules = λ a low. ap (list_any (λ k. k == a)) (picked-same opened before Nothing refl) ∙ h.modules a low;
  externals = picked-same external_given before Nothing refl ∙ h.externals;
  stored = picked-same stored_given before Nothing refl ∙ h.stored;
}

closes : (before : List Item) (j s g : ℕ) → IsOpen before j s g → IsClosed before (j + 1)
closes before j s g h = record {
  segments = λ a i low. h.segments a i (inl (omega (arith, low)));
  groups = λ a i low. h.groups a i (inl (omega (arith, low)));
  modules = λ a low. h.modules a (omega (arith, low));
  externals = h.externals;
  stored = h.stored;
}

-- What is given stays so.
segment-kept : (before xs : List Item) (j i : ℕ) (p : Placed) → segment_place before j i ≡ Some p → segment_place (before ++ xs) j i ≡ Some p
segment-kept before xs j i p h = ap (λ gs. given_to gs j i) (filter_map-append segment_given before xs) ∙ given-kept (filter_map segment_given before) (filter_map segment_given xs) j i p h

group-kept : (before xs : List Item) (j i : ℕ) (f : Option Frame) → group_frame before j i ≡ Some f → group_frame (before ++ xs) j i ≡ Some f
group-kept before xs j i f h = ap (λ gs. given_to gs j i) (filter_map-append group_given before xs) ∙ given-kept (filter_map group_given before) (filter_map group_given xs) j i f h

at-each : {V W : Type 0} (f : ℕ → Option W) (say : V → W) (s : ℕ) (p : V) (ps : List V) → f s ≡ Some (say p) → ((k : ℕ) (q : V) → slice_get ps k ≡ Some q → f (s + 1 + k) ≡ Some (say q)) → (k : ℕ) (q : V) → slice_get (p ∷ ps) k ≡ Some q → f (s + k) ≡ Some (say q)
at-each f say s p ps h rest zero q e = let same : s + 0 ≡ s = omega arith in ap f same ∙ h ∙ ap (λ v. Some (say v)) (same_Some p q e)
at-each f say s p ps h rest (suc k) q e = let next : s + suc k ≡ s + 1 + k = omega arith in ap f next ∙ rest k q e

-- Items give a module exactly these places.
pub record IsGiven (items : List Item) (j : ℕ) (pl : Places) : Type 0 where
  pub segments : (k : ℕ) (p : Placed) → slice_get pl.segments k ≡ Some p → segment_place items j (1 + k) ≡ Some p
  pub groups : (k : ℕ) (f : Frame) → slice_get pl.groups k ≡ Some f → group_frame items j (1 + k) ≡ Some (Some f)

pub given-more : (items more : List Item) (j : ℕ) (pl : Places) → IsGiven items j pl → IsGiven (items ++ more) j pl
given-more items more j pl h = record {
  segments = λ k p e. segment-kept items more j (1 + k) p (h.segments k p e);
  groups = λ k f e. group-kept items more j (1 + k) (Some f) (h.groups k f e);
}

-- n items of lines without entries.
abbrev pub nothings : ℕ → List Item
nothings zero = []
nothings (suc c) = Nothing ∷ nothings c

-- ---- what the text gives each module

each-found : {V W : Type 0} (f : ℕ → Option W) (say : V → W) (s : ℕ) (ps : List V) → ((k : ℕ) (p : V) → slice_get ps k ≡ Some p → f (s + k) ≡ Some (say p)) → map f (count_from s (length ps)) ≡ map (λ p. Some (say p)) ps
each-found f say s [] h = refl
each-found f say s (p ∷ ps) h =
    let same : s ≡ s + 0 = omega arith in
    ap₂ (λ a b. a ∷ b) (ap f same ∙ h 0 p refl) (each-found f say (s + 1) ps (λ k q e. let next : s + 1 + k ≡ s + suc k = omega arith in ap f next ∙ h (suc k) q e))

none-found : {V W : Type 0} (f : ℕ → Option W) (s : ℕ) (xs : List V) → ((i : ℕ) → f i ≡ None) → map f (count_from s (length xs)) ≡ map (λ x. None) xs
none-found f s [] h = refl
none-found f s (x ∷ xs) h = ap₂ (λ a b. a ∷ b) (h s) (none-found f (s + 1) xs h)

abbrev sparse_with : List (Option ℕ) → List (Option Placed) → List (Option Placed) → List (Option (Option Frame)) → Sparse
sparse_with st e s g = record { segments = s; stored = st; groups = g; externals = e }

pub told-by : (items : List Item) (j : ℕ) (m : List Rec) (pl : Places) → HasEntries m pl → IsGiven items j pl → filter_map external_given items ≡ [] → filter_map stored_given items ≡ [] → sparse_of items (j, m) ≡ told_places (m, pl)
told-by items j m pl has h none own =
    ap₂ (sparse_with (map (stored_address items j) (count_from 1 (length (segments m)))) (map (external_place items j) (count_from 1 (length (externals m)))))
    (ap (λ n. map (segment_place items j) (count_from 1 n)) (sym has.segments) ∙ each-found (segment_place items j) (λ p. p) 1 pl.segments h.segments)
    (ap (λ n. map (group_frame items j) (count_from 1 n)) (sym has.groups) ∙ each-found (group_frame items j) Some 1 pl.groups h.groups)
    ∙ ap₂ (λ st e. sparse_with st e (map Some pl.segments) (map (λ f. Some (Some f)) pl.groups)) (none-found (stored_address items j) 1 (segments m) (λ i. ap (λ gs. given_to gs j i) own))
    (none-found (external_place items j) 1 (externals m) (λ i. ap (λ gs. given_to gs j i) none))

-- The items of the lines of segments, of groups and of a module.
abbrev segment_items_of : ℕ → ℕ → List Placed → List Item
segment_items_of j s ps = map (λ y. Given j y.0 (SegmentPlace y.1)) (enumerate_from s ps)

abbrev group_items_of : ℕ → ℕ → List Frame → List Item
group_items_of j g fs = map (λ y. Given j y.0 (GroupFrame (Some y.1))) (enumerate_from g fs)

abbrev module_items : ℕ → Places → ℕ → List Item
module_items j pl c = Opened j ∷ (segment_items_of j 1 pl.segments ++ (group_items_of j 1 pl.groups ++ nothings c))

-- ---- shared frames

abbrev Framed : Type 0
Framed = (ℕ × ℕ) × Option Frame

same-frame : (o : Option Frame) (f : Frame) → is_same o f ≡ true → o ≡ Some f
same-frame None f h = absurd (false≢true h)
same-frame (Some g) f h =
    let k = and_parts (g.base == f.base) (g.selector == f.selector) h in
    ap₂ (λ b s. Some (record { base = b; selector = s })) (eqb-true g.base f.base k.0) (eqb-true g.selector f.selector k.1)

-- the first of its name is before it
shared-before : (j i : ℕ) (f : Frame) (o : Option Framed) → is_sharing (j, i) f (option_or o (Some ((j, i), Some f))) ≡ true → option_and_then (λ g. g.1) o ≡ Some f
shared-before j i f None h = absurd (false≢true (ap (λ b. not b && is_same (Some f) f) (sym (and_from (j == j) (i == i) (eq-eqb j j refl) (eq-eqb i i refl))) ∙ h))
shared-before j i f (Some g) h = same-frame g.1 f (and_parts (not ((g.0.0 == j) && (g.0.1 == i))) (is_same g.1 f) h).1

module _ (title : List Rec → ℕ → Title) (ms : List (List Rec)) (j i : ℕ) (m : List Rec) (f : Frame) (here : slice_get ms j ≡ Some m) where
  abbrev own : Title
  own = in_quotes (title m i)

  own-titled : is_titled title ms own (j, i) ≡ true
  own-titled =
      ap (λ o. option_map_or (λ n. bytes_eq own.0 (in_quotes (title n i)).0 && bytes_eq own.1 (in_quotes (title n i)).1) o false) here
      ∙ and_from (bytes_eq own.0 own.0) (bytes_eq own.1 own.1) ((bytes_eq-Decides own.0 own.0).1 refl) ((bytes_eq-Decides own.1 own.1).1 refl)

  pub first-of-all : (before later all : List Framed) → all ≡ before ++ ((j, i), Some f) ∷ later → first_titled title ms own all ≡ option_or (first_titled title ms own before) (Some ((j, i), Some f))
  first-of-all before later all split =
      let x : Framed = ((j, i), Some f) in
      let test : Framed → Bool = λ g. is_titled title ms own g.0 in
      ap (first_titled title ms own) split ∙ find-append test before (x ∷ later)
      ∙ ap (option_or (first_titled title ms own before)) (cond-true (test x) (Some x) (find test later) own-titled)

  frame-before : (before later all : List Framed) → all ≡ before ++ ((j, i), Some f) ∷ later → sharing title ms all j m i f ≡ true → shared_frame title ms own before ≡ Some f
  frame-before before later all split h =
      shared-before j i f (first_titled title ms own before) (sym (ap (is_sharing (j, i) f) (first-of-all before later all split)) ∙ h)

-- Of all frames of segments and groups the lines so far give the first, and these are left.
pub record AreLeft (all : List Places) (before : List Item) (ls lg : List Framed) : Type 0 where
  pub segments : all_segments 0 all ≡ filter_map segment_framed before ++ ls
  pub groups : all_groups 0 all ≡ filter_map group_given before ++ lg

one-left : {A B : Type 0} (pick : A → Option B) (before : List A) (x : A) (y : B) (left all : List B) → pick x ≡ Some y → all ≡ filter_map pick before ++ y ∷ left → all ≡ filter_map pick (before ++ x ∷ []) ++ left
one-left pick before x y left all e h = h ∙ sym (ap (λ l. l ++ left) (picked-more pick before x (Some y) e) ∙ append_assoc (filter_map pick before) (y ∷ []) left)

none-left : {A B : Type 0} (pick : A → Option B) (before : List A) (x : A) (left all : List B) → pick x ≡ None → all ≡ filter_map pick before ++ left → all ≡ filter_map pick (before ++ x ∷ []) ++ left
none-left pick before x left all e h = h ∙ ap (λ l. l ++ left) (sym (picked-same pick before x e))

module _ (all : List Places) (before : List Item) (ls lg : List Framed) where
  left-nothing : (x : Item) → segment_framed x ≡ None → group_given x ≡ None → AreLeft all before ls lg → AreLeft all (before ++ x ∷ []) ls lg
  left-nothing x e f h = record {
    segments = none-left segment_framed before x ls (all_segments 0 all) e h.segments;
    groups = none-left group_given before x lg (all_groups 0 all) f h.groups;
  }

  left-segment : (j s : ℕ) (p : Placed) → AreLeft all before (((j, s), Some p.frame) ∷ ls) lg → AreLeft all (before ++ Given j s (SegmentPlace p) ∷ []) ls lg
  left-segment j s p h = record {
    segments = one-left segment_framed before (Given j s (SegmentPlace p)) ((j, s), Some p.frame) ls (all_segments 0 all) refl h.segments;
    groups = none-left group_given before (Given j s (SegmentPlace p)) lg (all_groups 0 all) refl h.groups;
  }

  left-group : (j g : ℕ) (f : Frame) → AreLeft all before ls (((j, g), Some f) ∷ lg) → AreLeft all (before ++ Given j g (GroupFrame (Some f)) ∷ []) ls lg
  left-group j g f h = record {
    segments = none-left segment_framed before (Given j g (GroupFrame (Some f))) ls (all_segments 0 all) refl h.segments;
    groups = one-left group_given before (Given j g (GroupFrame (Some f))) ((j, g), Some f) lg (all_groups 0 all) refl h.groups;
  }

-- ---- lines, one after another

module _ (ms : List (List Rec)) (all : List Places) where
  -- Lines of these entries, after others, have these items.
  abbrev Runs : List Item → List LinkEntry → List Item → Type 0
  Runs before es xs = (n : ℕ) (ls : List Line) → items_after ms before (told_from n es ++ ls) ≡ items_after ms (before ++ xs) ls

  runs-none : (before : List Item) → Runs before [] []
  runs-none before n ls = ap (λ b. items_after ms b ls) (sym (append-nil before))

  runs-one : (before : List Item) (e : LinkEntry) (x : Item) → items_of ms before (Some e) ≡ Ok (x ∷ []) → Runs before (e ∷ []) (x ∷ [])
  runs-one before e x h n ls =
      subst (λ (r : Result (List Item) LineFault). elim r [ Ok ys ↦ items_after ms (before ++ ys) ls | Err w ↦ Err (fault.Line n w) ] ≡ items_after ms (before ++ x ∷ []) ls) (sym h) refl

  runs-both : (before : List Item) (es fs : List LinkEntry) (xs ys : List Item) → Runs before es xs → Runs (before ++ xs) fs ys → Runs before (es ++ fs) (xs ++ ys)
  runs-both before es fs xs ys h k n ls =
      ap (λ t. items_after ms before (t ++ ls)) (told-append n es fs)
      ∙ ap (items_after ms before) (append_assoc (told_from n es) (told_from (n + length es) fs) ls)
      ∙ h n (told_from (n + length es) fs ++ ls) ∙ k (n + length es) ls ∙ ap (λ b. items_after ms b ls) (append_assoc before xs ys)

  -- ---- the lines of a module

  module _ (j : ℕ) (m : List Rec) (here : slice_get ms j ≡ Some m) where
    item-here : (before : List Item) (s g : ℕ) (k : Key) (t : Told) → IsOpen before j s g → items_of ms before (Some (Gives k t)) ≡ alone (item_in ms before (Some (j, m)) k t)
    item-here before s g k t h =
        ap (λ o. alone (item_in ms before (option_and_then (module_at ms) o) k t)) h.current ∙ ap (λ o. alone (item_in ms before (option_map (λ x. (j, x)) o) k t)) here

    segment-item : (before : List Item) (s g : ℕ) (k : Key) (p : Placed) (b : Bool) → IsOpen before j s g → entry_named m kinds.Segment k ≡ Ok s
        → (b ≡ true → shared_frame segment_title ms (in_quotes (segment_title m s)) (filter_map segment_framed before) ≡ Some p.frame) → items_of ms before (Some (Gives k (segment_told b p))) ≡ Ok (Given j s (SegmentPlace p) ∷ [])
    segment-item before s g k p false h named frame =
        item-here before s g k (Own (SegmentPlace p)) h
        ∙ ap (λ r. alone (given_at ms before (j, m) (Own (SegmentPlace p)) r)) named
        ∙ ap (λ o. alone (if is_some o then Err why.Twice else Ok (Given j s (SegmentPlace p)))) (h.segments j s (inr (refl, omega arith)))
    segment-item before s g k p true h named frame =
        item-here before s g k (SharedPlace p.address) h
        ∙ ap (λ r. alone (given_at ms before (j, m) (SharedPlace p.address) r)) named
        ∙ ap (λ o. alone (unless_again before (map_ok (Given j s) (or_unshared (option_map (λ f. SegmentPlace (record { address = p.address; frame = f })) o))))) (frame refl)
        ∙ ap (λ o. alone (if is_some o then Err why.Twice else Ok (Given j s (SegmentPlace p)))) (h.segments j s (inr (refl, omega arith)))

    group-item : (before : List Item) (s g : ℕ) (k : Key) (f : Frame) (b : Bool) → IsOpen before j s g → entry_named m kinds.Group k ≡ Ok g
        → (b ≡ true → shared_frame group_title ms (in_quotes (group_title m g)) (filter_map group_given before) ≡ Some f) → items_of ms before (Some (Gives k (group_told b f))) ≡ Ok (Given j g (GroupFrame (Some f)) ∷ [])
    group-item before s g k f false h named frame =
        item-here before s g k (Own (GroupFrame (Some f))) h
        ∙ ap (λ r. alone (given_at ms before (j, m) (Own (GroupFrame (Some f))) r)) named
        ∙ ap (λ o. alone (if is_some o then Err why.Twice else Ok (Given j g (GroupFrame (Some f))))) (h.groups j g (inr (refl, omega arith)))
    group-item before s g k f true h named frame =
        item-here before s g k SharedFrame h
        ∙ ap (λ r. alone (given_at ms before (j, m) SharedFrame r)) named
        ∙ ap (λ o. alone (unless_again before (map_ok (Given j g) (or_unshared (option_map (λ x. GroupFrame (Some x)) o))))) (frame refl)
        ∙ ap (λ o. alone (if is_some o then Err why.Twice else Ok (Given j g (GroupFrame (Some f))))) (h.groups j g (inr (refl, omega arith)))

    record RunSegments (before : List Item) (q : Labels) (s g : ℕ) (ps : List Placed) (ls lg : List Framed) : Type 0 where
      pub run : Runs before (segment_lines_of q s ps) (segment_items_of j s ps)
      pub after : IsOpen (before ++ segment_items_of j s ps) j (s + length ps) g
      pub left : AreLeft all (before ++ segment_items_of j s ps) ls lg
      pub gives : (k : ℕ) (p : Placed) → slice_get ps k ≡ Some p → segment_place (before ++ segment_items_of j s ps) j (s + k) ≡ Some p

    run-segments : (before : List Item) (q : Labels) (s g : ℕ) (ps : List Placed) (ls lg : List Framed) → AreNamed ms all j m q → IsOpen before j s g → AreLeft all before (segments_framed j s ps ++ ls) lg
        → ((i : ℕ) → s ≤ i → i < s + length ps → entry_named m kinds.Segment (q.segment i) ≡ Ok i) → RunSegments before q s g ps ls lg
    run-segments before q s g [] ls lg is h left named = record {
      run = runs-none before;
      after = let same : s ≡ s + 0 = omega arith in subst (λ n. IsOpen (before ++ []) j n g) same (subst (λ b. IsOpen b j s g) (sym (append-nil before)) h);
      left = subst (λ b. AreLeft all b ls lg) (sym (append-nil before)) left;
      gives = λ k p e. absurd (none-some p e);
    }
    run-segments before q s g (p ∷ ps) ls lg is h left named =
        let x = Given j s (SegmentPlace p) in
        let xs = segment_items_of j (s + 1) ps in
        let more = segments_framed j (s + 1) ps ++ ls in
        let joined : (before ++ x ∷ []) ++ xs ≡ before ++ x ∷ xs = append_assoc before (x ∷ []) xs in
        let rest = run-segments (before ++ x ∷ []) q (s + 1) g ps ls lg is (gives-segment before j s g p h) (left-segment all before more lg j s p left) (λ i low high. named i (omega (arith, low)) (omega (arith, high))) in
        let b = q.shares.segment s p.frame in
        let line = Gives (q.segment s) (segment_told b p) in
        let one = runs-one before line x (segment-item before s g (q.segment s) p b h (named s (omega arith) (omega arith))
        (λ e. frame-before segment_title ms j s m p.frame here (filter_map segment_framed before) more (all_segments 0 all) left.segments (is.shared.segments s p.frame e))) in
        let first : segment_place (before ++ x ∷ []) j s ≡ Some p
        = ap (λ gs. given_to gs j s) (picked-more segment_given before x (Some ((j, s), p)) refl) ∙ given-here (filter_map segment_given before) j s p (h.segments j s (inr (refl, omega arith))) in
        record {
          run = runs-both before (line ∷ []) (segment_lines_of q (s + 1) ps) (x ∷ []) xs one rest.run;
          after = let many : s + 1 + length ps ≡ s + length (p ∷ ps) = omega arith in subst (λ n. IsOpen (before ++ x ∷ xs) j n g) many (subst (λ b. IsOpen b j (s + 1 + length ps) g) joined rest.after);
          left = subst (λ b. AreLeft all b ls lg) joined rest.left;
          gives = λ k q e. subst (λ b. segment_place b j (s + k) ≡ Some q) joined
              (at-each (segment_place ((before ++ x ∷ []) ++ xs) j) (λ v. v) s p ps (segment-kept (before ++ x ∷ []) xs j s p first) rest.gives k q e);
        }

    record RunGroups (before : List Item) (q : Labels) (s g : ℕ) (fs : List Frame) (ls lg : List Framed) : Type 0 where
      pub run : Runs before (group_lines_of q g fs) (group_items_of j g fs)
      pub after : IsOpen (before ++ group_items_of j g fs) j s (g + length fs)
      pub left : AreLeft all (before ++ group_items_of j g fs) ls lg
      pub gives : (k : ℕ) (f : Frame) → slice_get fs k ≡ Some f → group_frame (before ++ group_items_of j g fs) j (g + k) ≡ Some (Some f)

    run-groups : (before : List Item) (q : Labels) (s g : ℕ) (fs : List Frame) (ls lg : List Framed) → AreNamed ms all j m q → IsOpen before j s g → AreLeft all before ls (groups_framed j g fs ++ lg)
        → ((i : ℕ) → g ≤ i → i < g + length fs → entry_named m kinds.Group (q.group i) ≡ Ok i) → RunGroups before q s g fs ls lg
    run-groups before q s g [] ls lg is h left named = record {
      run = runs-none before;
      after = let same : g ≡ g + 0 = omega arith in subst (λ n. IsOpen (before ++ []) j s n) same (subst (λ b. IsOpen b j s g) (sym (append-nil before)) h);
      left = subst (λ b. AreLeft all b ls lg) (sym (append-nil before)) left;
      gives = λ k f e. absurd (none-some f e);
    }
    run-groups before q s g (f ∷ fs) ls lg is h left named =
        let x = Given j g (GroupFrame (Some f)) in
        let xs = group_items_of j (g + 1) fs in
        let more = groups_framed j (g + 1) fs ++ lg in
        let joined : (before ++ x ∷ []) ++ xs ≡ before ++ x ∷ xs = append_assoc before (x ∷ []) xs in
        let rest = run-groups (before ++ x ∷ []) q s (g + 1) fs ls lg is (gives-group before j s g (Some f) h) (left-group all before ls more j g f left) (λ i low high. named i (omega (arith, low)) (omega (arith, high))) in
        let b = q.shares.group g f in
        let line = Gives (q.group g) (group_told b f) in
        let one = runs-one before line x (group-item before s g (q.group g) f b h (named g (omega arith) (omega arith))
        (λ e. frame-before group_title ms j g m f here (filter_map group_given before) more (all_groups 0 all) left.groups (is.shared.groups g f e))) in
        let first : group_frame (before ++ x ∷ []) j g ≡ Some (Some f)
        = ap (λ gs. given_to gs j g) (picked-more group_given before x (Some ((j, g), Some f)) refl) ∙ given-here (filter_map group_given before) j g (Some f) (h.groups j g (inr (refl, omega arith))) in
        record {
          run = runs-both before (line ∷ []) (group_lines_of q (g + 1) fs) (x ∷ []) xs one rest.run;
          after = let many : g + 1 + length fs ≡ g + length (f ∷ fs) = omega arith in subst (λ n. IsOpen (before ++ x ∷ xs) j s n) many (subst (λ b. IsOpen b j s (g + 1 + length fs)) joined rest.after);
          left = subst (λ b. AreLeft all b ls lg) joined rest.left;
          gives = λ k q e. subst (λ b. group_frame b j (g + k) ≡ Some (Some q)) joined
              (at-each (group_frame ((before ++ x ∷ []) ++ xs) j) Some g f fs (group-kept (before ++ x ∷ []) xs j g (Some f) first) rest.gives k q e);
        }

    record RunBlanks (before : List Item) (s g c : ℕ) (ls lg : List Framed) : Type 0 where
      pub run : Runs before (blanks c) (nothings c)
      pub after : IsOpen (before ++ nothings c) j s g
      pub left : AreLeft all (before ++ nothings c) ls lg

    run-blanks : (before : List Item) (s g c : ℕ) (ls lg : List Framed) → IsOpen before j s g → AreLeft all before ls lg → RunBlanks before s g c ls lg
    run-blanks before s g zero ls lg h left = record {
      run = runs-none before;
      after = subst (λ b. IsOpen b j s g) (sym (append-nil before)) h;
      left = subst (λ b. AreLeft all b ls lg) (sym (append-nil before)) left;
    }
    run-blanks before s g (suc c) ls lg h left =
        let rest = run-blanks (before ++ Nothing ∷ []) s g c ls lg (does-nothing before j s g h) (left-nothing all before ls lg Nothing refl refl left) in
        record {
          run = runs-both before (Blank ∷ []) (blanks c) (Nothing ∷ []) (nothings c) (runs-one before Blank Nothing refl) rest.run;
          after = subst (λ b. IsOpen b j s g) (append_assoc before (Nothing ∷ []) (nothings c)) rest.after;
          left = subst (λ b. AreLeft all b ls lg) (append_assoc before (Nothing ∷ []) (nothings c)) rest.left;
        }

    record RunModule (before : List Item) (q : Labels) (pl : Places) (ls lg : List Framed) : Type 0 where
      pub run : Runs before (module_lines q pl) (module_items j pl q.count)
      pub after : IsClosed (before ++ module_items j pl q.count) (j + 1)
      pub left : AreLeft all (before ++ module_items j pl q.count) ls lg
      pub given : IsGiven (before ++ module_items j pl q.count) j pl

    run-module : (before : List Item) (q : Labels) (pl : Places) (ls lg : List Framed) → IsClosed before j → AreLeft all before (segments_framed j 1 pl.segments ++ ls) (groups_framed j 1 pl.groups ++ lg) → AreNamed ms all j m q → HasEntries m pl
        → RunModule before q pl ls lg
    run-module before q pl ls lg h left named has =
        let x = Opened j in
        let ss = segment_items_of j 1 pl.segments in
        let gs = group_items_of j 1 pl.groups in
        let ns = nothings q.count in
        let b1 = before ++ x ∷ [] in
        let fs = groups_framed j 1 pl.groups ++ lg in
        let one = runs-one before (Opens q.opening) x (ap (λ r. alone (unless_again before (map_ok Opened r))) named.«module» ∙ ap (λ b. alone (if b then Err why.Twice else Ok x)) (h.modules j (omega arith))) in
        let s = run-segments b1 q 1 1 pl.segments ls fs named (opens before j h) (left-nothing all before (segments_framed j 1 pl.segments ++ ls) fs x refl refl left)
        (λ i low high. named.segments i low (omega (arith, high, has.segments))) in
        let g = run-groups (b1 ++ ss) q (1 + length pl.segments) 1 pl.groups ls lg named s.after s.left (λ i low high. named.groups i low (omega (arith, high, has.groups))) in
        let n = run-blanks ((b1 ++ ss) ++ gs) (1 + length pl.segments) (1 + length pl.groups) q.count ls lg g.after g.left in
        let joined : ((b1 ++ ss) ++ gs) ++ ns ≡ before ++ x ∷ (ss ++ (gs ++ ns))
        = append_assoc (b1 ++ ss) gs ns ∙ append_assoc b1 ss (gs ++ ns) ∙ append_assoc before (x ∷ []) (ss ++ (gs ++ ns)) in
        let segment_lines = segment_lines_of q 1 pl.segments in
        let group_lines = group_lines_of q 1 pl.groups in
        record {
          run = runs-both before (Opens q.opening ∷ []) (segment_lines ++ (group_lines ++ blanks q.count)) (x ∷ []) (ss ++ (gs ++ ns)) one
              (runs-both b1 segment_lines (group_lines ++ blanks q.count) ss (gs ++ ns) s.run (runs-both (b1 ++ ss) group_lines (blanks q.count) gs ns g.run n.run));
          after = subst (λ b. IsClosed b (j + 1)) joined (closes (((b1 ++ ss) ++ gs) ++ ns) j (1 + length pl.segments) (1 + length pl.groups) n.after);
          left = subst (λ b. AreLeft all b ls lg) joined n.left;
          given = subst (λ b. IsGiven b j pl) joined (record {
            segments = λ k p e. segment-kept ((b1 ++ ss) ++ gs) ns j (1 + k) p (segment-kept (b1 ++ ss) gs j (1 + k) p (s.gives k p e));
            groups = λ k f e. group-kept ((b1 ++ ss) ++ gs) ns j (1 + k) (Some f) (g.gives k f e);
          });
        }

  -- ---- all modules, from the one with number a on

  pub record RunAll (before : List Item) (a : ℕ) (ns : List (List Rec)) (pls : List Places) (qs : List Labels) : Type 0 where
    pub items : List Item
    pub run : Runs before (all_lines pls qs) items
    pub told : (more : List Item) → filter_map external_given more ≡ [] → filter_map stored_given more ≡ [] → map (sparse_of ((before ++ items) ++ more)) (enumerate_from a ns) ≡ map told_places (zip ns pls)
    pub externals : filter_map external_given (before ++ items) ≡ []
    pub stored : filter_map stored_given (before ++ items) ≡ []

  pub run-all : (before : List Item) (a : ℕ) (ns : List (List Rec)) (pls : List Places) (qs : List Labels) → IsClosed before a → AreLeft all before (all_segments a pls) (all_groups a pls) → ((k : ℕ) → slice_get ns k ≡ slice_get ms (a + k))
      → AllNamed ms all a ns pls qs → RunAll before a ns pls qs
  run-all before a [] [] [] h left here named = record { items = []; run = runs-none before; told = λ more e f. refl; externals = ap (filter_map external_given) (append-nil before) ∙ h.externals; stored = ap (filter_map stored_given) (append-nil before) ∙ h.stored }
  run-all before a (m ∷ ns) (pl ∷ pls) (q ∷ qs) h left here named =
      let same : a ≡ a + 0 = omega arith in
      let one = run-module a m (ap (slice_get ms) same ∙ sym (here 0)) before q pl (all_segments (a + 1) pls) (all_groups (a + 1) pls) h left named.0 named.1.0 in
      let xs = module_items a pl q.count in
      let rest = run-all (before ++ xs) (a + 1) ns pls qs one.after one.left (λ k. let next : a + suc k ≡ a + 1 + k = omega arith in here (suc k) ∙ ap (slice_get ms) next) named.1.1 in
      let joined : (before ++ xs) ++ rest.items ≡ before ++ (xs ++ rest.items) = append_assoc before xs rest.items in
      record {
        items = xs ++ rest.items;
        run = runs-both before (module_lines q pl) (all_lines pls qs) xs rest.items one.run rest.run;
        told = λ more e f.
            let whole = ((before ++ xs) ++ rest.items) ++ more in
            let none : filter_map external_given whole ≡ [] = filter_map-append external_given ((before ++ xs) ++ rest.items) more ∙ ap₂ (λ u v. u ++ v) rest.externals e in
            let own : filter_map stored_given whole ≡ [] = filter_map-append stored_given ((before ++ xs) ++ rest.items) more ∙ ap₂ (λ u v. u ++ v) rest.stored f in
            let given : IsGiven whole a pl = given-more ((before ++ xs) ++ rest.items) more a pl (given-more (before ++ xs) rest.items a pl one.given) in
            subst (λ b. map (sparse_of (b ++ more)) (enumerate_from a (m ∷ ns)) ≡ map told_places (zip (m ∷ ns) (pl ∷ pls))) joined
            (ap₂ (λ u v. u ∷ v) (told-by whole a m pl named.1.0 given none own) (rest.told more e f));
        externals = ap (filter_map external_given) (sym joined) ∙ rest.externals;
        stored = ap (filter_map stored_given) (sym joined) ∙ rest.stored;
      }
  run-all before a [] [] (q ∷ qs) h left here named = absurd named
  run-all before a [] (pl ∷ pls) qs h left here named = absurd named
  run-all before a (m ∷ ns) [] qs h left here named = absurd named
  run-all before a (m ∷ ns) (pl ∷ pls) [] h left here named = absurd named

pub all-told : (ms : List (List Rec)) (pls : List Places) (qs : List Labels) → AllNamed ms pls 0 ms pls qs
    → map_ok (sparse_all ms) (items_after ms [] (told_from 1 (all_lines pls qs ++ Blank ∷ []))) ≡ Ok (map told_places (zip ms pls))
all-told ms pls qs named =
    let all = run-all ms pls [] 0 ms pls qs none-closed (record { segments = refl; groups = refl }) (λ k. let same : k ≡ 0 + k = omega arith in ap (slice_get ms) same) named in
    let es = all_lines pls qs in
    ap (λ ls. map_ok (sparse_all ms) (items_after ms [] ls)) (told-append 1 es (Blank ∷ []))
    ∙ ap (map_ok (sparse_all ms)) (all.run 1 ((1 + length es, Some Blank) ∷ []))
    ∙ ap Ok (all.told (Nothing ∷ []) refl refl)

-- ---- the keys of drafts

module _ (shares : ℕ → List Rec → Sharing) (ms : List (List Rec)) (all : List Places) (are : (j : ℕ) (m : List Rec) → AreShared ms all j m (shares j m)) where
  all-named : (a : ℕ) (ns : List (List Rec)) (pls : List Places) (cs : List ℕ) → ((k : ℕ) → slice_get ns k ≡ slice_get ms (a + k)) → AllZip HasEntries ns pls → length cs ≡ length ns → AllNamed ms all a ns pls (labels_from shares ms a ns cs)
  all-named a [] [] cs here has many = tt
  all-named a [] (pl ∷ pls) cs here has many = absurd has
  all-named a (m ∷ ns) [] cs here has many = absurd has
  all-named a (m ∷ ns) (pl ∷ pls) [] here has many = absurd (omega (arith, many))
  all-named a (m ∷ ns) (pl ∷ pls) (c ∷ cs) here has many =
      let same : a ≡ a + 0 = omega arith in (
        record {
          «module» = keys-name-module ms a m (ap (slice_get ms) same ∙ sym (here 0));
          segments = λ i low high. keys-name m kinds.Segment i low high;
          groups = λ i low high. keys-name m kinds.Group i low high;
          shared = are a m;
        },
        (has.0, all-named (a + 1) ns pls cs (λ k. let next : a + suc k ≡ a + 1 + k = omega arith in here (suc k) ∙ ap (slice_get ms) next) has.1 (omega (arith, many))),
      )

pub drafted-told : (shares : ℕ → List Rec → Sharing) (ms : List (List Rec)) (pls : List Places) (cs : List ℕ) → ((j : ℕ) (m : List Rec) → AreShared ms pls j m (shares j m)) → AllZip HasEntries ms pls → length cs ≡ length ms
    → map_ok (sparse_all ms) (items_after ms [] (told_from 1 (all_lines pls (labels_from shares ms 0 ms cs) ++ Blank ∷ []))) ≡ Ok (map told_places (zip ms pls))
drafted-told shares ms pls cs are has many = all-told ms pls (labels_from shares ms 0 ms cs) (all-named shares ms pls are 0 ms pls cs (λ k. let same : k ≡ 0 + k = omega arith in ap (slice_get ms) same) has many)

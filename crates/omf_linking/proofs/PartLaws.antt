-- What lines for all modules give, from the tables of what the lines before them give.
use Rattle.std.proofs.Common.{◌≡◌, drop, get_or, ℕ, zero, suc, cond, ◌+◌, ◌-◌, ◌<◌, ◌≤◌, Bool, true, false, List, [], ◌∷◌, ◌++◌, length, append-nil, append_assoc, refl, sym, ap, ap₂, ◌∙◌, arith, subst, inl, inr}
use Rattle.std.specs.Prelude.{◌==◌, ◌&&◌, not, filter, map, flat_map, zip, option_and_then, is_some, slice_get, Option, Some, Result, Ok, Err}
use Rattle.std.specs.List.{enumerate_from}
use Rattle.std.specs.Option.{option_map_or}
use Rattle.std.proofs.lemmas.Bool.{cases_Bool, cond-true, cond-false}
use Rattle.omf_check.specs.Tables.{attributes, entry, groups, segments}
use Rattle.omf_check.specs.declared.segment.SegInfo.{SegInfo}
use Rattle.omf_layout.specs.Several.Portions.{Classed, classed, portions, portions_in}
use Rattle.omf_layout.specs.declared.several.portion.Portion.{Portion}
use Rattle.omf_layout.proofs.SeveralLaws.ApartLaws.{Each, each-both}
use Rattle.omf_placement.specs.declared.frame.Frame.{Frame}
use Rattle.omf_placement.specs.declared.frame.Placed.{Placed}
use Rattle.omf_records.specs.Values.{Rec}
use Rattle.omf_records.specs.Inner.Seen.{map_ok}
use Rattle.omf_reloc.specs.declared.fault.Kind.TheVariants as kinds
use Rattle.omf_linking.specs.Inner.Parting.{IsLow, frame_gifts_in, gift_seen, is_framed_in, is_left_in, is_placed_in}
use Rattle.omf_linking.specs.Inner.Walking.{AreLines, IsTaken}
use Rattle.omf_linking.specs.Locator.Items.{Item, Ends, all_items, alone, frame_gifts, gift_item, group_frame, if_any, is_left, is_unframed, items_of, laid_items, last_end, parts_left, segment_place, sited_items}
use Rattle.omf_linking.specs.Locator.Keys.{count_from, entry_name, is_written}
use Rattle.omf_linking.specs.Locator.LinkEntries.{Frames, GroupFrame, Lays, Parts}
use Rattle.omf_linking.specs.Locator.Parts.{Gift, gifts_of, groups_in, groups_named, names_part, parts_named, site_of}
use Rattle.omf_linking.specs.Locator.Sparse.{Sparse, sparse_all, sparse_of}
use Rattle.omf_linking.specs.declared.locator.fault.LineFault.{LineFault}
use Rattle.omf_linking.specs.declared.locator.fault.LocatorFault.{LocatorFault}
use Rattle.omf_linking.specs.declared.locator.fault.LocatorFault.TheVariants as fault
use Rattle.omf_linking.specs.declared.locator.lines.Lines.{Lines}
use Rattle.omf_linking.specs.declared.locator.parts.Gift as written
use Rattle.omf_linking.specs.declared.locator.span.End.{End}
use Rattle.omf_linking.specs.declared.locator.span.Site.{Site}
use Rattle.omf_linking.specs.declared.locator.span.Span.{Span}
use Rattle.omf_placement.proofs.ListLaws.{entry-at}
use Rattle.std.proofs.lemmas.List.{map-append}
use Rattle.std.proofs.lemmas.List.Elements.{filter-append}
use Rattle.omf_linking.proofs.KeyTableLaws.{more-counted}
use Rattle.omf_linking.proofs.WalkLaws.{more_ended}
use Rattle.omf_linking.proofs.SparseLaws.{slice_get_all, slice_get_count}

-- ---- what holds of each of several

each-kept : {A : Type 0} (P : A → Type 0) (t : A → Bool) (xs : List A) → Each P xs → Each P (filter t xs)
each-kept P t [] e = tt
each-kept P t (x ∷ xs) e = elim (cases_Bool (t x)) [
  | inl y ↦ subst (Each P) (sym (cond-true (t x) (x ∷ filter t xs) (filter t xs) y)) (e.0, each-kept P t xs e.1)
  | inr n ↦ subst (Each P) (sym (cond-false (t x) (x ∷ filter t xs) (filter t xs) n)) (each-kept P t xs e.1)
]

each-mapped : {A B : Type 0} (P : B → Type 0) (f : A → B) (xs : List A) → Each (λ x. P (f x)) xs → Each P (map f xs)
each-mapped P f [] e = tt
each-mapped P f (x ∷ xs) e = (e.0, each-mapped P f xs e.1)

same-kept : {A : Type 0} (P : A → Type 0) (t u : A → Bool) → ((x : A) → P x → t x ≡ u x) → (xs : List A) → Each P xs → filter t xs ≡ filter u xs
same-kept P t u h [] e = refl
same-kept P t u h (x ∷ xs) e = ap₂ (λ b ys. cond b (x ∷ ys) ys) (h x e.0) (same-kept P t u h xs e.1)

-- ---- the segments and the groups of modules have entries in their tables

abbrev IsWithin : List (List Rec) → (List Rec → ℕ) → ℕ → ℕ → Type 0
IsWithin ms count j i = (m : List Rec) × (slice_get ms j ≡ Some m) × (1 ≤ i) × (i ≤ count m)

abbrev segment_count : List Rec → ℕ
segment_count m = length (segments m)

abbrev group_count : List Rec → ℕ
group_count m = length (groups m)

module _ (ms : List (List Rec)) where
  abbrev IsSegment : Classed Portion → Type 0
  IsSegment x = IsWithin ms segment_count x.1.1.«module» x.1.1.index

  segments-in : (j : ℕ) (n : List Rec) → slice_get ms j ≡ Some n → (a : ℕ) (ss : List SegInfo) (xs : List ℕ) → 1 ≤ a → a + length ss ≤ 1 + length (segments n) → Each IsSegment (map (classed n j) (enumerate_from a (zip ss xs)))
  segments-in j n e a [] xs low high = tt
  segments-in j n e a (s ∷ ss) [] low high = tt
  segments-in j n e a (s ∷ ss) (x ∷ xs) low high = ((n, e, low, omega (arith, high)), segments-in j n e (a + 1) ss xs (omega (arith, low)) (omega (arith, high)))

  segments-from : (k : ℕ) (ns : List (List Rec)) → ((i : ℕ) → slice_get ns i ≡ slice_get ms (k + i)) → Each IsSegment (flat_map portions_in (enumerate_from k ns))
  segments-from k [] h = tt
  segments-from k (n ∷ ns) h =
      let same : k + 0 ≡ k = omega arith in
      each-both IsSegment (portions_in (k, n)) (flat_map portions_in (enumerate_from (k + 1) ns))
      (segments-in k n (ap (slice_get ms) (sym same) ∙ sym (h 0)) 1 (segments n) (attributes n) (omega arith) (omega arith))
      (segments-from (k + 1) ns (λ i. let next : k + suc i ≡ k + 1 + i = omega arith in h (suc i) ∙ ap (slice_get ms) next))

  each-segment : Each IsSegment (portions ms)
  each-segment = segments-from 0 ms (λ i. let same : i ≡ 0 + i = omega arith in ap (slice_get ms) same)

  abbrev IsGroup : ℕ × ℕ → Type 0
  IsGroup e = IsWithin ms group_count e.0 e.1

  counted : (j : ℕ) (n : List Rec) → slice_get ms j ≡ Some n → (a c : ℕ) → 1 ≤ a → a + c ≤ 1 + length (groups n) → Each (λ (i : ℕ). IsGroup (j, i)) (count_from a c)
  counted j n e a zero low high = tt
  counted j n e a (suc c) low high = ((n, e, low, omega (arith, high)), counted j n e (a + 1) c (omega (arith, low)) (omega (arith, high)))

  groups-from : (name : List ℕ) (k : ℕ) (ns : List (List Rec)) → ((i : ℕ) → slice_get ns i ≡ slice_get ms (k + i)) → Each IsGroup (flat_map (groups_in name) (enumerate_from k ns))
  groups-from name k [] h = tt
  groups-from name k (n ∷ ns) h =
      let same : k + 0 ≡ k = omega arith in
      let t : ℕ → Bool = λ i. is_written name (entry_name n kinds.Group i) in
      let all = count_from 1 (length (groups n)) in
      each-both IsGroup (groups_in name (k, n)) (flat_map (groups_in name) (enumerate_from (k + 1) ns))
      (each-mapped IsGroup (λ i. (k, i)) (filter t all) (each-kept (λ (i : ℕ). IsGroup (k, i)) t all (counted k n (ap (slice_get ms) (sym same) ∙ sym (h 0)) 1 (length (groups n)) (omega arith) (omega arith))))
      (groups-from name (k + 1) ns (λ i. let next : k + suc i ≡ k + 1 + i = omega arith in h (suc i) ∙ ap (slice_get ms) next))

  each-group : (name : List ℕ) → Each IsGroup (groups_named name ms)
  each-group name = groups-from name 0 ms (λ i. let same : i ≡ 0 + i = omega arith in ap (slice_get ms) same)

-- one more group of a name
one-kept : (b : Bool) (j i : ℕ) → map {B = ℕ × ℕ} (λ i. (j, i)) (cond b (i ∷ []) []) ≡ cond b ((j, i) ∷ []) []
one-kept true j i = refl
one-kept false j i = refl

pub next-group : (old gs new : List (ℕ × ℕ)) (j k n : ℕ) (t : ℕ → Bool) (b : Bool) → gs ≡ old ++ map (λ i. (j, i)) (filter t (count_from 1 k)) → new ≡ gs ++ cond b ((j, n) ∷ []) [] → b ≡ t n → n ≡ k + 1
    → new ≡ old ++ map (λ i. (j, i)) (filter t (count_from 1 (k + 1)))
next-group old gs new j k n t b here put is at =
    let f : ℕ → ℕ × ℕ = λ i. (j, i) in
    let s : k + 1 ≡ suc k = omega arith in
    let e : 1 + k ≡ n = omega (arith, at) in
    let front = count_from 1 k in
    let last : List (ℕ × ℕ) = cond b ((j, n) ∷ []) [] in
    let all : map f (filter t (count_from 1 (k + 1))) ≡ map f (filter t front) ++ last
    = ap (λ c. map f (filter t (count_from 1 c))) s ∙ ap (λ xs. map f (filter t xs)) (more-counted 1 k ∙ ap (λ i. front ++ i ∷ []) e)
    ∙ ap (map f) (filter-append t front (n ∷ [])) ∙ map-append f (filter t front) (filter t (n ∷ []))
    ∙ ap (λ c. map f (filter t front) ++ map f (cond c (n ∷ []) [])) (sym is) ∙ ap (λ xs. map f (filter t front) ++ xs) (one-kept b j n) in
    put ∙ ap (λ xs. xs ++ last) here ∙ append_assoc old (map f (filter t front)) last ∙ ap (λ xs. old ++ xs) (sym all)

pub no-groups : (old : List (ℕ × ℕ)) (j : ℕ) → old ≡ old ++ map {B = ℕ × ℕ} (λ i. (j, i)) []
no-groups old j = sym (append-nil old)

pub all-groups : (old gs : List (ℕ × ℕ)) (j n all : ℕ) (t : ℕ → Bool) → n ≤ all → all ≤ n → gs ≡ old ++ map (λ i. (j, i)) (filter t (count_from 1 n)) → gs ≡ old ++ map (λ i. (j, i)) (filter t (count_from 1 all))
all-groups old gs j n all t low high h = let e : n ≡ all = omega (arith, low, high) in h ∙ ap (λ k. old ++ map (λ i. (j, i)) (filter t (count_from 1 k))) e

-- ---- what the tables have for them

entry-counted : {A : Type 0} (f : ℕ → A) (n i : ℕ) → 1 ≤ i → i ≤ n → entry (map f (count_from 1 n)) i ≡ Some (f i)
entry-counted f n zero low high = absurd (omega (arith, low))
entry-counted f n (suc i) low high =
    let next : suc i ≡ i + 1 = omega arith in
    let back : i ≡ suc i - 1 = omega arith in
    let all = map f (count_from 1 n) in
    ap (entry all) next ∙ entry-at all i ∙ ap (slice_get all) back ∙ slice_get_count f 1 n (suc i) low (omega (arith, high))

module _ (ms : List (List Rec)) (items : List Item) (j : ℕ) (m : List Rec) (found : slice_get ms j ≡ Some m) where
  tables : slice_get (sparse_all ms items) j ≡ Some (sparse_of items (j, m))
  tables = let z : 0 + j ≡ j = omega arith in slice_get_all (sparse_of items) 0 j ms m found ∙ ap (λ (k : ℕ). Some (sparse_of items (k, m))) z

  placed-in : (i : ℕ) → 1 ≤ i → i ≤ length (segments m) → is_placed_in (sparse_all ms items) j i ≡ is_some (segment_place items j i)
  placed-in i low high =
      ap (λ (o : Option Sparse). option_map_or (λ s. is_some (option_and_then (λ p. p) (entry s.segments i))) o false) tables
      ∙ ap (λ (o : Option (Option Placed)). is_some (option_and_then (λ p. p) o)) (entry-counted (segment_place items j) (length (segments m)) i low high)

  framed-in : (i : ℕ) → 1 ≤ i → i ≤ length (groups m) → is_framed_in (sparse_all ms items) j i ≡ is_some (group_frame items j i)
  framed-in i low high =
      ap (λ (o : Option Sparse). option_map_or (λ s. is_some (option_and_then (λ f. f) (entry s.groups i))) o false) tables
      ∙ ap (λ (o : Option (Option (Option Frame))). is_some (option_and_then (λ f. f) o)) (entry-counted (group_frame items j) (length (groups m)) i low high)

module _ (ms : List (List Rec)) (items : List Item) where
  same-left : (x : Classed Portion) → IsSegment ms x → is_left_in (sparse_all ms items) x.1.1 ≡ is_left items x.1.1
  same-left x h = ap (λ b. not (is_some x.1.1.segment.absolute) && not b) (placed-in ms items x.1.1.«module» h.0 h.1 x.1.1.index h.2 h.3)

  pub left-of : (ps : Parts) → filter (λ x. is_left_in (sparse_all ms items) x.1.1) (parts_named ps ms) ≡ parts_left items (parts_named ps ms)
  left-of ps = same-kept (IsSegment ms) (λ x. is_left_in (sparse_all ms items) x.1.1) (λ x. is_left items x.1.1) same-left (parts_named ps ms)
      (each-kept (IsSegment ms) (λ x. names_part ps x.0 x.1.0) (portions ms) (each-segment ms))

  same-unframed : (e : ℕ × ℕ) → IsGroup ms e → not (is_framed_in (sparse_all ms items) e.0 e.1) ≡ is_unframed items e
  same-unframed e h = ap not (framed-in ms items e.0 h.0 h.1 e.1 h.2 h.3)

  pub frames-of : (name : List ℕ) (f : Frame) → frame_gifts_in (sparse_all ms items) f (groups_named name ms) ≡ frame_gifts items f (groups_named name ms)
  frames-of name f = ap (map (λ e. (e, GroupFrame (Some f)))) (same-kept (IsGroup ms) (λ e. not (is_framed_in (sparse_all ms items) e.0 e.1)) (is_unframed items) same-unframed (groups_named name ms) (each-group ms name))

-- ---- one gift after another

mapped-by : {A : Type 0} (r : Result (List A) LineFault) → map_ok (λ xs. xs) r ≡ r
mapped-by (Ok xs) = refl
mapped-by (Err w) = refl

mapped-twice : (done : List Item) (x : Item) (r : Result (List Item) LineFault) → map_ok (λ xs. done ++ xs) (map_ok (λ xs. x ∷ xs) r) ≡ map_ok (λ xs. (done ++ x ∷ []) ++ xs) r
mapped-twice done x (Ok xs) = ap Ok (sym (append_assoc done (x ∷ []) xs))
mapped-twice done x (Err w) = refl

alone-ok : (r : Result Item LineFault) (xs : List Item) → alone r ≡ Ok xs → (x : Item) × (r ≡ Ok x) × (x ∷ [] ≡ xs)
alone-ok (Ok x) xs e = let same : x ∷ [] ≡ xs = cc in (x, refl, same)
alone-ok (Err w) xs e = absurd cc

alone-err : (r : Result Item LineFault) (w : LineFault) → alone r ≡ Err w → r ≡ Err w
alone-err (Ok x) w e = absurd cc
alone-err (Err v) w e = let same : v ≡ w = cc in ap Err same

abbrev by_gift : List (List Rec) → List Item → List Gift → Result Item LineFault → Result (List Item) LineFault
by_gift ms before gs r = elim r [ Ok x ↦ map_ok (λ xs. x ∷ xs) (all_items ms (before ++ x ∷ []) gs) | Err w ↦ Err w ]

-- the gifts so far have their items, and the others are left
pub record AreSoFar (ms : List (List Rec)) (items : List Item) (all left : List Gift) (s : Lines) : Type 0 where
  pub done : List Item
  pub lines : AreLines ms s (items ++ done)
  pub same : all_items ms items all ≡ map_ok (λ xs. done ++ xs) (all_items ms (items ++ done) left)

module _ (ms : List (List Rec)) (items : List Item) (all : List Gift) where
  pub none-yet : (s : Lines) → AreLines ms s items → AreSoFar ms items all all s
  none-yet s at = record {
    done = [];
    lines = subst (AreLines ms s) (sym (append-nil items)) at;
    same = ap (λ xs. all_items ms xs all) (sym (append-nil items)) ∙ sym (mapped-by (all_items ms (items ++ []) all));
  }

  module _ (g : Gift) (rest : List Gift) (s new : Lines) (n : ℕ) (h : AreSoFar ms items all (g ∷ rest) s) (r : Result (Unit {0}) LocatorFault) (t : IsTaken ms new (items ++ h.done) n (alone (gift_item ms (items ++ h.done) g)) r) where
    pub one-more : (u : Unit {0}) → r ≡ Ok u → AreSoFar ms items all rest new
    one-more u o =
        let is : IsTaken ms new (items ++ h.done) n (alone (gift_item ms (items ++ h.done) g)) (Ok u) = rw o at t in
        let one = alone-ok (gift_item ms (items ++ h.done) g) is.0 is.1 in
        let joined : (items ++ h.done) ++ one.0 ∷ [] ≡ items ++ (h.done ++ one.0 ∷ []) = append_assoc items h.done (one.0 ∷ []) in
        record {
          done = h.done ++ one.0 ∷ [];
          lines = subst (AreLines ms new) joined (subst (λ xs. AreLines ms new ((items ++ h.done) ++ xs)) (sym one.2) is.2);
          same = h.same ∙ ap (λ q. map_ok (λ xs. h.done ++ xs) (by_gift ms (items ++ h.done) rest q)) one.1
              ∙ mapped-twice h.done one.0 (all_items ms ((items ++ h.done) ++ one.0 ∷ []) rest)
              ∙ ap (λ b. map_ok (λ xs. (h.done ++ one.0 ∷ []) ++ xs) (all_items ms b rest)) joined;
        }

    one-fault : (f : LocatorFault) → IsTaken ms new (items ++ h.done) n (alone (gift_item ms (items ++ h.done) g)) (Err f) → IsTaken ms new items n (all_items ms items all) (Err f)
    one-fault fault.Memory is = tt
    one-fault (fault.Line k w) is =
        (is.0, h.same ∙ ap (λ q. map_ok (λ xs. h.done ++ xs) (by_gift ms (items ++ h.done) rest q)) (alone-err (gift_item ms (items ++ h.done) g) w is.1))

    pub one-fails : (f : LocatorFault) → r ≡ Err f → IsTaken ms new items n (all_items ms items all) (Err f)
    one-fails f o = one-fault f (rw o at t)

  pub all-done : (s : Lines) (n : ℕ) (left : List Gift) → left ≡ [] → AreSoFar ms items all left s → (u : Unit {0}) → IsTaken ms s items n (all_items ms items all) (Ok u)
  all-done s n left none h u =
      (h.done ++ [], h.same ∙ ap (λ gs. map_ok (λ xs. h.done ++ xs) (all_items ms (items ++ h.done) gs)) none, subst (λ xs. AreLines ms s (items ++ xs)) (sym (append-nil h.done)) h.lines)

-- the gifts of the code, one more
next-drop : {A : Type 0} (xs : List A) (k : ℕ) (d : A) → k < length xs → drop k xs ≡ get_or xs k d ∷ drop (k + 1) xs
next-drop [] k d h = absurd (omega (arith, h))
next-drop (x ∷ xs) zero d h = refl
next-drop (x ∷ xs) (suc k) d h = let same : suc (k + 1) ≡ suc k + 1 = omega arith in next-drop xs k d (omega (arith, h)) ∙ ap (λ n. get_or xs k d ∷ drop n (x ∷ xs)) same

abbrev pub AreGiven : List (List Rec) → List Item → List written.Gift → ℕ → Lines → Type 0
AreGiven ms items gs k s = AreSoFar ms items (map gift_seen gs) (map gift_seen (drop k gs)) s

module _ (ms : List (List Rec)) (items : List Item) (gs : List written.Gift) (k : ℕ) (d : written.Gift) (low : k < length gs) (s new : Lines) (n : ℕ) (h : AreGiven ms items gs k s) (r : Result (Unit {0}) LocatorFault)
    (t : (its : List Item) → AreLines ms s its → IsTaken ms new its n (alone (gift_item ms its (gift_seen (get_or gs k d)))) r) where
  abbrev here : AreSoFar ms items (map gift_seen gs) (gift_seen (get_or gs k d) ∷ map gift_seen (drop (k + 1) gs)) s
  here = subst (λ left. AreSoFar ms items (map gift_seen gs) (map gift_seen left) s) (next-drop gs k d low) h

  pub given-more : (u : Unit {0}) → r ≡ Ok u → AreGiven ms items gs (k + 1) new
  given-more u o = one-more ms items (map gift_seen gs) (gift_seen (get_or gs k d)) (map gift_seen (drop (k + 1) gs)) s new n here r (t (items ++ here.done) here.lines) u o

  pub given-fails : (f : LocatorFault) → r ≡ Err f → IsTaken ms new items n (all_items ms items (map gift_seen gs)) (Err f)
  given-fails f o = one-fails ms items (map gift_seen gs) (gift_seen (get_or gs k d)) (map gift_seen (drop (k + 1) gs)) s new n here r (t (items ++ here.done) here.lines) f o

-- ---- a line that lays segments, and one that gives groups a frame

pub some-listed : {A : Type 0} (xs : List A) (n : ℕ) → n ≡ length xs → (n == 0) ≡ false → xs ≡ [] → ⊥
some-listed [] n e h g = let none : (0 == 0) ≡ false = subst (λ (k : ℕ). (k == 0) ≡ false) e h in absurd cc
some-listed (x ∷ xs) n e h g = cc

pub some-mapped : {A B : Type 0} (f : A → B) (xs : List A) (n : ℕ) → n ≡ length xs → (n == 0) ≡ false → map f xs ≡ [] → ⊥
some-mapped f [] n e h g = some-listed {A = ℕ} [] n e h refl
some-mapped f (x ∷ xs) n e h g = cc

any-of : {A : Type 0} (xs : List A) (r : Result (List Item) LineFault) → (xs ≡ [] → ⊥) → if_any xs r ≡ r
any-of [] r h = absurd (h refl)
any-of (x ∷ xs) r h = refl

pub lays-at : (ms : List (List Rec)) (items : List Item) (ps : Parts) (s : Span) (site : Site) → (parts_named ps ms ≡ [] → ⊥) → site_of (last_end items) s ≡ Ok site
    → items_of ms items (Some (Lays ps s)) ≡ laid_items ms items (gifts_of site (parts_left items (parts_named ps ms)))
lays-at ms items ps s site some e = any-of (parts_named ps ms) (sited_items ms items (parts_named ps ms) (site_of (last_end items) s)) some ∙ ap (sited_items ms items (parts_named ps ms)) e

pub frames-by : (ms : List (List Rec)) (items : List Item) (n : List ℕ) (f : Frame) → (groups_named n ms ≡ [] → ⊥) → items_of ms items (Some (Frames n f)) ≡ all_items ms items (frame_gifts items f (groups_named n ms))
frames-by ms items n f some = any-of (groups_named n ms) (all_items ms items (frame_gifts items f (groups_named n ms))) some

module _ (ms : List (List Rec)) (items : List Item) (gs : List Gift) (e : End) (s : Lines) (n : ℕ) (r : Result (Unit {0}) LocatorFault) (t : IsTaken ms s items n (all_items ms items gs) r) where
  pub laid-ends : (u : Unit {0}) → r ≡ Ok u → IsLow e → (new : Lines) → new.keys ≡ s.keys → new.opened ≡ s.opened → new.current ≡ s.current → new.given ≡ s.given → new.titles ≡ s.titles → new.end ≡ Some e
      → IsTaken ms new items n (laid_items ms items (Some (gs, e))) (Ok u)
  laid-ends u o low new a b c d f g =
      let is : IsTaken ms s items n (all_items ms items gs) (Ok u) = rw o at t in
      (is.0 ++ Ends e ∷ [], ap (map_ok (λ xs. xs ++ Ends e ∷ [])) is.1, more_ended ms s new items is.0 e is.2 low a b c d f g)

  laid-fault : (f : LocatorFault) → IsTaken ms s items n (all_items ms items gs) (Err f) → IsTaken ms s items n (laid_items ms items (Some (gs, e))) (Err f)
  laid-fault fault.Memory is = tt
  laid-fault (fault.Line k w) is = (is.0, ap (map_ok (λ xs. xs ++ Ends e ∷ [])) is.1)

  pub laid-fails : (f : LocatorFault) → r ≡ Err f → IsTaken ms s items n (laid_items ms items (Some (gs, e))) (Err f)
  laid-fails f o = laid-fault f (rw o at t)

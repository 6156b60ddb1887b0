-- Each segment is found among those that are laid.
use Rattle.std.proofs.Common.{◌≡◌, ℕ, zero, suc, ◌+◌, ◌<◌, ◌≤◌, List, [], ◌∷◌, ◌++◌, length, Bool, true, refl, sym, ap, ap₂, ◌∙◌, subst, inl, inr, get_or, arith}
use Rattle.std.specs.Prelude.{map, flat_map, not, find, Some, None, option_map, slice_get, bytes_eq, ◌==◌, ◌&&◌}
use Rattle.std.specs.List.{filter, zip, enumerate_from, cons_option}
use Rattle.std.proofs.lemmas.Bool.{cond-true, cond-false, cases_Bool, eq-eqb, eqb-true, and_parts, and_from}
use Rattle.std.proofs.lemmas.Option.{none-some, same_Some, slice_get-get_or}
use Rattle.omf_records.specs.Values.{Rec}
use Rattle.omf_check.specs.Tables.{attributes, segments, entry}
use Rattle.omf_check.specs.declared.segment.SegInfo.{SegInfo}
use Rattle.omf_layout.specs.Layout.{Laid}
use Rattle.omf_layout.specs.declared.options.Options.{Options}
use Rattle.omf_placement.proofs.ListLaws.{entry-at}
use Rattle.omf_placement.proofs.AttributeLaws.{length-attributes}
use Rattle.omf_layout.specs.declared.several.portion.Combination.{Combination}
use Rattle.omf_layout.specs.declared.several.portion.Combination.TheVariants.{Joined, Common, Alone}
use Rattle.omf_layout.specs.declared.several.portion.Portion.{Portion}
use Rattle.omf_layout.specs.Several.Gathered.{distinct, of_name, names_in, gathered}
use Rattle.omf_layout.specs.Several.Laws.{count, IsLaidAt, IsToldBy, SegmentsAreFound}
use Rattle.omf_layout.specs.Several.Laying.{Lying, arranged}
use Rattle.omf_layout.specs.Several.Order.{runs_in, runs, is_named, nameless_last, combined_by, in_order}
use Rattle.omf_layout.specs.Several.Placing.{is_of}
use Rattle.omf_layout.specs.Several.Portions.{Named, Classed, classed, portion, portions_in, portions}
use Rattle.omf_layout.proofs.SeveralLaws.ApartLaws.{Each, each-at, each-both}
use Rattle.omf_layout.proofs.SeveralLaws.OnceLaws.{count-both, count-seen, ordered-once}
use Rattle.omf_layout.proofs.SeveralLaws.OrderedLaws.{those-in-runs}

-- What passes a test is found.
record IsFound {A : Type 0} (t : A → Bool) (xs : List A) : Type 0 where
  pub position : ℕ
  pub one : A
  pub here : slice_get xs position ≡ Some one
  pub found : find t xs ≡ Some one
  pub passes : t one ≡ true

found-in : {A : Type 0} (t : A → Bool) (xs : List A) → 1 ≤ count t xs → IsFound t xs
found-in t [] h = absurd (omega (arith, h))
found-in t (x ∷ xs) h = elim (cases_Bool (t x)) [
  | inl y ↦ record { position = 0; one = x; here = refl; found = cond-true (t x) (Some x) (find t xs) y; passes = y }
  | inr n ↦
      let same = ap length (cond-false (t x) (x ∷ filter t xs) (filter t xs) n) in
      let rest = found-in t xs (omega (arith, h, same)) in
      record { position = suc rest.position; one = rest.one; here = rest.here; found = cond-false (t x) (Some x) (find t xs) n ∙ rest.found; passes = rest.passes }
]

counted-at : {A : Type 0} (t : A → Bool) (xs : List A) (k : ℕ) (x : A) → slice_get xs k ≡ Some x → t x ≡ true → 1 ≤ count t xs
counted-at t [] k x e y = absurd (none-some x e)
counted-at t (z ∷ zs) zero x e y =
    let this : t z ≡ true = ap t (same_Some z x e) ∙ y in
    let same = ap length (cond-true (t z) (z ∷ filter t zs) (filter t zs) this) in
    omega (arith, same)
counted-at t (z ∷ zs) (suc k) x e y = let both = count-both t (z ∷ []) zs in let rest = counted-at t zs k x e y in omega (arith, both, rest)

counted-in : {A B : Type 0} (t : B → Bool) (h : A → List B) (xs : List A) (k : ℕ) (x : A) → slice_get xs k ≡ Some x → 1 ≤ count t (h x) → 1 ≤ count t (flat_map h xs)
counted-in t h [] k x e c = absurd (none-some x e)
counted-in t h (z ∷ zs) zero x e c = let both = count-both t (h z) (flat_map h zs) in let same = ap (λ y. count t (h y)) (same_Some z x e) in omega (arith, both, same, c)
counted-in t h (z ∷ zs) (suc k) x e c = let both = count-both t (h z) (flat_map h zs) in let rest = counted-in t h zs k x e c in omega (arith, both, rest)

pub numbered-at : {A : Type 0} (a : ℕ) (xs : List A) (k : ℕ) (x : A) → slice_get xs k ≡ Some x → slice_get (enumerate_from a xs) k ≡ Some (a + k, x)
numbered-at a [] k x e = absurd (none-some x e)
numbered-at a (z ∷ zs) zero x e = let same : a ≡ a + 0 = omega arith in ap₂ (λ n y. Some (n, y)) same (same_Some z x e)
numbered-at a (z ∷ zs) (suc k) x e = let same : a + 1 + k ≡ a + suc k = omega arith in numbered-at (a + 1) zs k x e ∙ ap (λ n. Some (n, x)) same

pair-at : {A B : Type 0} (xs : List A) (ys : List B) (k : ℕ) (x : A) (y : B) → slice_get xs k ≡ Some x → slice_get ys k ≡ Some y → slice_get (zip xs ys) k ≡ Some (x, y)
pair-at [] ys k x y e g = absurd (none-some x e)
pair-at (a ∷ xs) [] k x y e g = absurd (none-some y g)
pair-at (a ∷ xs) (b ∷ ys) zero x y e g = ap₂ (λ u v. Some (u, v)) (same_Some a x e) (same_Some b y g)
pair-at (a ∷ xs) (b ∷ ys) (suc k) x y e g = pair-at xs ys k x y e g

pub below-some : {A : Type 0} (xs : List A) (k : ℕ) (x : A) → slice_get xs k ≡ Some x → k < length xs
below-some [] k x e = absurd (none-some x e)
below-some (y ∷ ys) zero x e = omega arith
below-some (y ∷ ys) (suc k) x e = let low = below-some ys k x e in omega (arith, low)

-- The segment of this module and index.
abbrev is_this : ℕ → ℕ → Portion → Bool
is_this j i p = (p.«module» == j) && (p.index == i)

portion-there : (ms : List (List Rec)) (j k : ℕ) (m : List Rec) (s : SegInfo) → slice_get ms j ≡ Some m → slice_get (segments m) k ≡ Some s → 1 ≤ count (is_this j (k + 1)) (map (λ x. x.1.1) (portions ms))
portion-there ms j k m s e g =
    let low : k < length (attributes m) = omega (arith, below-some (segments m) k s g, length-attributes m) in
    let a = get_or (attributes m) k 0 in
    let here = numbered-at 1 (zip (segments m) (attributes m)) k (s, a) (pair-at (segments m) (attributes m) k s a g (slice_get-get_or (attributes m) k 0 low)) in
    let own : ((j == j) && (1 + k == k + 1)) ≡ true = and_from (j == j) (1 + k == k + 1) (eq-eqb j j refl) (eq-eqb (1 + k) (k + 1) (omega arith)) in
    let inside : 1 ≤ count (λ (x : Classed Portion). is_this j (k + 1) x.1.1) (portions_in (j, m)) =
    subst (λ n. 1 ≤ n) (sym (count-seen (λ (x : Classed Portion). is_this j (k + 1) x.1.1) (classed m j) (enumerate_from 1 (zip (segments m) (attributes m)))))
    (counted-at (λ y. is_this j (k + 1) (classed m j y).1.1) (enumerate_from 1 (zip (segments m) (attributes m))) k (1 + k, (s, a)) here own) in
    let zero_more : 0 + j ≡ j = omega arith in
    let there = numbered-at 0 ms j m e ∙ ap (λ n. Some (n, m)) zero_more in
    subst (λ n. 1 ≤ n) (sym (count-seen (is_this j (k + 1)) (λ x. x.1.1) (portions ms)))
    (counted-in (λ (x : Classed Portion). is_this j (k + 1) x.1.1) portions_in (enumerate_from 0 ms) j (j, m) there inside)

-- What holds of all holds of those that pass a test, and of these with the others after them.
each-passing : {A : Type 0} (Q : A → Type 0) (t : A → Bool) (xs : List A) → Each Q xs → Each Q (filter t xs)
each-passing Q t [] e = tt
each-passing Q t (x ∷ xs) e = elim (cases_Bool (t x)) [
  | inl y ↦ subst (Each Q) (sym (cond-true (t x) (x ∷ filter t xs) (filter t xs) y)) (e.0, each-passing Q t xs e.1)
  | inr n ↦ subst (Each Q) (sym (cond-false (t x) (x ∷ filter t xs) (filter t xs) n)) (each-passing Q t xs e.1)
]

pub each-parted : {A : Type 0} (Q : A → Type 0) (s : A → Bool) (xs : List A) → Each Q xs → Each Q (filter s xs ++ filter (λ x. not (s x)) xs)
each-parted Q s xs e = each-both Q (filter s xs) (filter (λ x. not (s x)) xs) (each-passing Q s xs e) (each-passing Q (λ x. not (s x)) xs e)

-- What holds of each segment also holds in the order.
module _ (P : Portion → Type 0) where
  each-flat : {A B : Type 0} (Q : A → Type 0) (R : B → Type 0) (h : A → List B) → ((x : A) → Q x → Each R (h x)) → (xs : List A) → Each Q xs → Each R (flat_map h xs)
  each-flat Q R h w [] e = tt
  each-flat Q R h w (x ∷ xs) e = each-both R (h x) (flat_map h xs) (w x e.0) (each-flat Q R h w xs e.1)

  each-of-name : {A : Type 0} (R : A → Type 0) (xs : List (Named A)) (n : List ℕ) → Each (λ (x : Named A). R x.1) xs → Each R (of_name xs n)
  each-of-name R [] n e = tt
  each-of-name R (x ∷ xs) n e = elim (cases_Bool (bytes_eq n x.0)) [
    | inl y ↦ subst (Each R) (sym (ap (λ o. cons_option o (of_name xs n)) (cond-true (bytes_eq n x.0) (Some x.1) None y))) (e.0, each-of-name R xs n e.1)
    | inr f ↦ subst (Each R) (sym (ap (λ o. cons_option o (of_name xs n)) (cond-false (bytes_eq n x.0) (Some x.1) None f))) (each-of-name R xs n e.1)
  ]

  each-gathered : {A : Type 0} (R : A → Type 0) (xs : List (Named A)) → Each (λ (x : Named A). R x.1) xs → Each (Each R) (gathered xs)
  each-gathered R xs e = by-names (distinct (names_in xs)) where
    by-names : (ns : List (List ℕ)) → Each (Each R) (map (of_name xs) ns)
    by-names [] = tt
    by-names (n ∷ ns) = (each-of-name R xs n e, by-names ns)

  each-runs : (xs : List (Classed Portion)) → Each (λ (x : Classed Portion). P x.1.1) xs → Each (Each P) (runs_in xs)
  each-runs xs e = each-flat (Each (λ (y : Named Portion). P y.1)) (Each P) gathered (λ c q. each-gathered P c q) (gathered xs) (each-gathered (λ (y : Named Portion). P y.1) xs e)

  each-by : (c : Combination) (run : List Portion) → Each P run → Each P (combined_by c run)
  each-by c run e = each-passing P _ run e

  each-run : (run : List Portion) → Each P run → Each P (in_order run)
  each-run run e = each-both P (combined_by Joined run) (combined_by Common run ++ combined_by Alone run) (each-by Joined run e)
      (each-both P (combined_by Common run) (combined_by Alone run) (each-by Common run e) (each-by Alone run e))

  each-in-order : (ms : List (List Rec)) → Each (λ (x : Classed Portion). P x.1.1) (portions ms) → Each P (flat_map in_order (runs ms))
  each-in-order ms e =
      each-flat (Each P) P in_order each-run (runs ms) (each-runs (nameless_last (portions ms))
      (each-parted (λ (x : Classed Portion). P x.1.1) (λ x. is_named x.1.1) (portions ms) e))

-- Each is as its module's SEGDEF of its index defines it.
module _ (ms : List (List Rec)) where
  abbrev IsOwn : Portion → Type 0
  IsOwn p = (m : List Rec) → slice_get ms p.«module» ≡ Some m → IsToldBy m p

  own-in : (j : ℕ) (n : List Rec) → slice_get ms j ≡ Some n → (a : ℕ) (ss : List SegInfo) (xs : List ℕ) → ((i : ℕ) → slice_get ss i ≡ entry (segments n) (a + i)) → ((i : ℕ) → slice_get xs i ≡ entry (attributes n) (a + i))
      → Each (λ (x : Classed Portion). IsOwn x.1.1) (map (classed n j) (enumerate_from a (zip ss xs)))
  own-in j n e a [] xs h k = tt
  own-in j n e a (s ∷ ss) [] h k = tt
  own-in j n e a (s ∷ ss) (x ∷ xs) h k =
      let same : a + 0 ≡ a = omega arith in
      let own : IsToldBy n (portion n j a s x) = record {
        attribute = x;
        told = ap (entry (segments n)) (sym same) ∙ sym (h 0);
        attributed = ap (entry (attributes n)) (sym same) ∙ sym (k 0);
        whole = refl;
      } in (
        (λ m g. subst (λ q. IsToldBy q (portion n j a s x)) (same_Some n m (sym e ∙ g)) own),
        own-in j n e (a + 1) ss xs (λ i. let next : a + suc i ≡ a + 1 + i = omega arith in h (suc i) ∙ ap (entry (segments n)) next)
            (λ i. let next : a + suc i ≡ a + 1 + i = omega arith in k (suc i) ∙ ap (entry (attributes n)) next),
      )

  from-one : {A : Type 0} (xs : List A) (i : ℕ) → slice_get xs i ≡ entry xs (1 + i)
  from-one xs i = let next : i + 1 ≡ 1 + i = omega arith in sym (entry-at xs i) ∙ ap (entry xs) next

  own-from : (k : ℕ) (ns : List (List Rec)) → ((i : ℕ) → slice_get ns i ≡ slice_get ms (k + i)) → Each (λ (x : Classed Portion). IsOwn x.1.1) (flat_map portions_in (enumerate_from k ns))
  own-from k [] h = tt
  own-from k (n ∷ ns) h =
      let same : k + 0 ≡ k = omega arith in
      each-both (λ (x : Classed Portion). IsOwn x.1.1) (portions_in (k, n)) (flat_map portions_in (enumerate_from (k + 1) ns))
      (own-in k n (ap (slice_get ms) (sym same) ∙ sym (h 0)) 1 (segments n) (attributes n) (from-one (segments n)) (from-one (attributes n)))
      (own-from (k + 1) ns (λ i. let next : k + suc i ≡ k + 1 + i = omega arith in h (suc i) ∙ ap (slice_get ms) next))

  own-in-order : Each IsOwn (flat_map in_order (runs ms))
  own-in-order = each-in-order IsOwn ms (own-from 0 ms (λ i. let same : i ≡ 0 + i = omega arith in ap (slice_get ms) same))

-- The segment that is found among those that are laid.
seen-at : (ls : List Lying) (k : ℕ) (x : Lying) → slice_get ls k ≡ Some x → slice_get (map (λ y. y.0) ls) k ≡ Some x.0
seen-at [] k x e = absurd (none-some x e)
seen-at (y ∷ ys) zero x e = ap (λ z. Some z.0) (same_Some y x e)
seen-at (y ∷ ys) (suc k) x e = seen-at ys k x e

-- Each laid segment is as its module's SEGDEF defines it.
pub own-at : (o : Options) (ms : List (List Rec)) (l : Laid (List Lying)) → arranged o ms ≡ Some l → (k : ℕ) (x : Lying) → slice_get l.what k ≡ Some x → (m : List Rec) → slice_get ms x.0.«module» ≡ Some m → IsToldBy m x.0
own-at o ms l h k x e =
    let ps = flat_map in_order (runs ms) in
    each-at (IsOwn ms) ps (own-in-order ms) k x.0 (ap (λ xs. slice_get xs k) (sym (those-in-runs o.frames o.base (runs ms) l h)) ∙ seen-at l.what k x e)

found-at : (o : Options) (ms : List (List Rec)) (l : Laid (List Lying)) → arranged o ms ≡ Some l → (j k : ℕ) (m : List Rec) (s : SegInfo) → slice_get ms j ≡ Some m → slice_get (segments m) k ≡ Some s → IsLaidAt l.what j (k + 1) s
found-at o ms l h j k m s e g =
    let those : map (λ x. x.0) l.what ≡ flat_map in_order (runs ms) = those-in-runs o.frames o.base (runs ms) l h in
    let many = count-seen (is_this j (k + 1)) (λ (x : Lying). x.0) l.what in
    let laid = ap (count (is_this j (k + 1))) those in
    let f = found-in (is_of j (k + 1)) l.what (omega (arith, many, laid, ordered-once ms (is_this j (k + 1)), portion-there ms j k m s e g)) in
    let parts = and_parts (f.one.0.«module» == j) (f.one.0.index == k + 1) f.passes in
    let number = eqb-true f.one.0.«module» j parts.0 in
    let index = eqb-true f.one.0.index (k + 1) parts.1 in
    let own = own-at o ms l h f.position f.one f.here m (ap (slice_get ms) number ∙ e) in
    record {
      position = f.position;
      lying = f.one;
      laid = f.here;
      number = number;
      index = index;
      told = same_Some f.one.0.segment s (sym own.told ∙ ap (entry (segments m)) index ∙ entry-at (segments m) k ∙ g);
      place = ap (option_map (λ x. x.1)) f.found;
    }

pub segments-are-found : SegmentsAreFound
segments-are-found o ms l h j zero m s e g = absurd (none-some s g)
segments-are-found o ms l h j (suc k) m s e g =
    let next : k + 1 ≡ suc k = omega arith in
    subst (λ i. IsLaidAt l.what j i s) next (found-at o ms l h j k m s e (sym (entry-at (segments m) k) ∙ ap (entry (segments m)) next ∙ g))

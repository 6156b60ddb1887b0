-- Tables of keys: what they keep, and what a key finds in them.
use Rattle.std.proofs.Common.{◌≡◌, ℕ, zero, suc, ◌+◌, ◌≤◌, Bool, true, false, ◌&&◌, List, [], ◌∷◌, ◌++◌, length, refl, sym, ap, ap₂, subst, ◌∙◌, inl, inr, append-nil, arith, cond}
use Rattle.std.specs.Prelude.{◌==◌, bytes_eq, filter, flat_map, option_map, slice_get, Option, Some, None, Result, Ok, Err}
use Rattle.std.specs.List.{list_all}
use Rattle.std.specs.BTreeMap.{BTreeMap, UpdatesBy, get_by, is_at}
use Rattle.std.specs.Cmp.{eq_by_cmp_equiv}
use Rattle.std.specs.Cmp.Lexicographic.{slice_cmp, nat_list_cmp_total}
use Rattle.std.specs.Global.{Vec}
use Rattle.std.specs.Map.{AreApart, IsKeyTest, KeepsOthers, lookup}
use Rattle.std.specs.Ordering.{is_eq, nat_cmp}
use Rattle.std.proofs.lemmas.Bool.{and_from, and_parts, cases_Bool, cond-true, cond-false, eq-eqb, ne_eqb, false≢true}
use Rattle.std.proofs.lemmas.List.Elements.{filter-append, filter_agree}
use Rattle.std.proofs.lemmas.Map.Text.{is_eq-slice_cmp}
use Rattle.std.proofs.lemmas.Slice.Eq.{bytes_eq-Decides}
use Rattle.omf_records.specs.Values.{Rec}
use Rattle.omf_text.proofs.PrintedLaws.{printed-quoted, Passes, is_printed}
use Rattle.omf_placement.specs.Quoted.{escaped}
use Rattle.omf_reloc.specs.declared.fault.Kind.{Kind}
use Rattle.omf_reloc.specs.declared.fault.Kind.TheVariants as kinds
use Rattle.omf_linking.specs.Inner.KeyTables.{IsKeyTable, both_texts, class_text, holder_after, holder_of, is_text, kept, module_text, name_text, written}
use Rattle.omf_linking.specs.Locator.Keys.{class_name, count_from, entry_name, is_written, module_name, module_named, names_entry, names_module, the_one}
use Rattle.omf_linking.specs.Locator.LinkEntries.{Named, Numbered, OfClass}
use Rattle.omf_linking.specs.declared.locator.fault.LineFault.{LineFault}
use Rattle.omf_linking.specs.declared.locator.fault.LineFault.TheVariants as why
use Rattle.omf_linking.specs.declared.locator.tables.Holder.{Holder}
use Rattle.omf_linking.specs.declared.locator.tables.Holder.TheVariants.{One, Several}
use Rattle.omf_linking.proofs.KeyNames.{filter-none, filter-one}

-- ---- a table with texts for keys

abbrev Kept : Type 0
Kept = BTreeMap (Vec ℕ) Holder

pub bytes-flip : (xs ys : List ℕ) → bytes_eq xs ys ≡ false → bytes_eq ys xs ≡ false
bytes-flip xs ys h = elim (cases_Bool (bytes_eq ys xs)) [
  | inr f ↦ f
  | inl t ↦ absurd (false≢true (sym h ∙ (bytes_eq-Decides xs ys).1 (sym ((bytes_eq-Decides ys xs).0 t))))
]

others : {K X : Type 0} (eq : K → K → Bool) (test : K → Bool) (old new : List (K × X)) → KeepsOthers eq test old new → (other : K → Bool) → IsKeyTest eq other → AreApart test other → lookup other new ≡ lookup other old
unfolding KeepsOthers
others eq test old new h = h

apart : (bs cs ks : List ℕ) → bytes_eq bs cs ≡ false → is_eq (slice_cmp nat_cmp bs ks) ≡ true → is_eq (slice_cmp nat_cmp cs ks) ≡ false
apart bs cs ks n y =
    let same : bs ≡ ks = (bytes_eq-Decides bs ks).0 (sym (is_eq-slice_cmp bs ks) ∙ y) in
    is_eq-slice_cmp cs ks ∙ ap (bytes_eq cs) (sym same) ∙ bytes-flip bs cs n

-- the text t was given w, and each other text keeps what it had
abbrev pub at_text : {X : Type 0} → BTreeMap (Vec ℕ) X → List ℕ → Option X
at_text m q = get_by (λ k. slice_cmp nat_cmp q k.items) m

pub updated : {X : Type 0} (t : List ℕ) (m n : BTreeMap (Vec ℕ) X) (w : Option X) → UpdatesBy (λ x y. slice_cmp nat_cmp x.items y.items) (λ k. slice_cmp nat_cmp t k.items) m n w → (q : List ℕ) → at_text n q ≡ cond (bytes_eq t q) w (at_text m q)
updated t m n w h q = elim (cases_Bool (bytes_eq t q)) [
  | inl y ↦ subst (λ (l : List ℕ). at_text n l ≡ w) ((bytes_eq-Decides t q).0 y) h.1 ∙ sym (cond-true (bytes_eq t q) w (at_text m q) y)
  | inr f ↦
      others _ _ _ _ h.3 _ (λ x y. (eq_by_cmp_equiv nat_list_cmp_total).congr q x.items y.items) (λ k. apart t q k.items f)
      ∙ sym (cond-false (bytes_eq t q) w (at_text m q) f)
]

-- ---- one more

one-more-holder : (ns : List ℕ) (x : ℕ) → holder_of (ns ++ x ∷ []) ≡ Some (holder_after x (holder_of ns))
one-more-holder [] x = refl
one-more-holder (n ∷ []) x = refl
one-more-holder (n ∷ o ∷ ns) x = refl

module _ (texts : ℕ → Option (List ℕ)) (numbers : List ℕ) (x : ℕ) where
  abbrev having : List ℕ → List ℕ → List ℕ
  having q ns = filter (λ i. is_text q (texts i)) ns

  with_text : (q : List ℕ) → is_text q (texts x) ≡ true → having q (numbers ++ x ∷ []) ≡ having q numbers ++ x ∷ []
  with_text q h = filter-append (λ i. is_text q (texts i)) numbers (x ∷ []) ∙ ap (λ ns. having q numbers ++ ns) (cond-true (is_text q (texts x)) (x ∷ []) [] h)

  without_text : (q : List ℕ) → is_text q (texts x) ≡ false → having q (numbers ++ x ∷ []) ≡ having q numbers
  without_text q h = filter-append (λ i. is_text q (texts i)) numbers (x ∷ []) ∙ ap (λ ns. having q numbers ++ ns) (cond-false (is_text q (texts x)) (x ∷ []) [] h) ∙ append-nil (having q numbers)

  pub one-more : (t : List ℕ) (m n : Kept) (h : Holder) → texts x ≡ Some t → h ≡ holder_after x (kept m t) → UpdatesBy (λ a b. slice_cmp nat_cmp a.items b.items) (λ k. slice_cmp nat_cmp t k.items) m n (Some h)
      → IsKeyTable texts numbers m → IsKeyTable texts (numbers ++ x ∷ []) n
  one-more t m n h own is u table q = updated t m n (Some h) u q ∙ (elim (cases_Bool (bytes_eq t q)) [
    | inl y ↦
        let same : t ≡ q = (bytes_eq-Decides t q).0 y in
        let mine : is_text q (texts x) ≡ true = ap (is_text q) own ∙ (bytes_eq-Decides q t).1 (sym same) in
        cond-true (bytes_eq t q) (Some h) (kept m q) y ∙ ap Some (is ∙ ap (λ l. holder_after x (kept m l)) same ∙ ap (holder_after x) (table q))
        ∙ sym (one-more-holder (having q numbers) x) ∙ ap holder_of (sym (with_text q mine))
    | inr f ↦
        let other : is_text q (texts x) ≡ false = ap (is_text q) own ∙ bytes-flip t q f in
        cond-false (bytes_eq t q) (Some h) (kept m q) f ∙ table q ∙ ap holder_of (sym (without_text q other))
  ])

  pub none-more : (m : Kept) → texts x ≡ None → IsKeyTable texts numbers m → IsKeyTable texts (numbers ++ x ∷ []) m
  none-more m own table q = table q ∙ ap holder_of (sym (without_text q (ap (is_text q) own)))

pub none-yet : (texts : ℕ → Option (List ℕ)) (m : Kept) → m.entries ≡ [] → IsKeyTable texts [] m
none-yet texts m e q = ap (λ es. lookup (is_at (λ (k : Vec ℕ). slice_cmp nat_cmp q k.items)) es) e

pub more-counted : (first n : ℕ) → count_from first (suc n) ≡ count_from first n ++ (first + n) ∷ []
more-counted first zero = let e : first ≡ first + 0 = omega arith in ap (λ k. k ∷ []) e
more-counted first (suc n) =
    let e : first + 1 + n ≡ first + suc n = omega arith in
    ap (λ xs. first ∷ xs) (more-counted (first + 1) n ∙ ap (λ k. count_from (first + 1) n ++ k ∷ []) e)

-- the next number, k, was added
pub next-number : (texts : ℕ → Option (List ℕ)) (first n k : ℕ) (m : Kept) → k ≡ first + n → IsKeyTable texts (count_from first n ++ k ∷ []) m → IsKeyTable texts (count_from first (n + 1)) m
next-number texts first n k m e h =
    let s : n + 1 ≡ suc n = omega arith in
    subst (λ (ns : List ℕ). IsKeyTable texts ns m) (ap (λ i. count_from first n ++ i ∷ []) e ∙ sym (more-counted first n) ∙ ap (count_from first) (sym s)) h

pub all-numbers : (texts : ℕ → Option (List ℕ)) (first n all : ℕ) (m : Kept) → n ≤ all → all ≤ n → IsKeyTable texts (count_from first n) m → IsKeyTable texts (count_from first all) m
all-numbers texts first n all m low high h = let e : n ≡ all = omega (arith, low, high) in subst (λ i. IsKeyTable texts (count_from first i) m) e h

-- ---- the one that is named

abbrev pub answer_of : Option Holder → Result ℕ LineFault
answer_of None = Err why.Unknown
answer_of (Some (One n)) = Ok n
answer_of (Some Several) = Err why.Several

pub answered : (ns : List ℕ) → answer_of (holder_of ns) ≡ the_one ns
answered [] = refl
answered (n ∷ []) = refl
answered (n ∷ o ∷ ns) = refl

-- ---- keys by names

pub text-written : (n : List ℕ) (o : Option (List ℕ)) → is_text n (written o) ≡ is_written n o
text-written n None = refl
text-written n (Some name) = refl

pub names-agree : (m : List Rec) (kind : Kind) (n : List ℕ) (is : List ℕ) → the_one (filter (λ i. is_text n (name_text m kind i)) is) ≡ the_one (filter (names_entry m (Named n) kind) is)
names-agree m kind n is = ap the_one (filter_agree (λ i. is_text n (name_text m kind i)) (names_entry m (Named n) kind) (λ i. text-written n (entry_name m kind i)) is)

module-text : (n : List ℕ) (o : Option (List Rec)) → is_text n (option_map (λ m. flat_map escaped (module_name m)) o) ≡ is_written n (option_map module_name o)
module-text n None = refl
module-text n (Some m) = refl

pub modules-agree : (ms : List (List Rec)) (n : List ℕ) (is : List ℕ) → the_one (filter (λ j. is_text n (module_text ms j)) is) ≡ the_one (filter (names_module ms (Named n)) is)
modules-agree ms n is = ap the_one (filter_agree (λ j. is_text n (module_text ms j)) (names_module ms (Named n)) (λ j. module-text n (slice_get ms j)) is)

-- ---- keys by names and classes

-- A line feed is in no printed text.
no-feed : (n c t : List ℕ) → Passes is_printed ((n ++ 10 ∷ c) ++ t) → ⊥
no-feed [] c t h = false≢true h
no-feed (b ∷ n) c t h = no-feed n c t (and_parts (is_printed b) (list_all is_printed ((n ++ 10 ∷ c) ++ t)) h).1

abbrev head_or : List ℕ → ℕ
head_or [] = 0
head_or (x ∷ xs) = x

abbrev rest_of : List ℕ → List ℕ
rest_of [] = []
rest_of (x ∷ xs) = xs

both-parts : (x y n c t : List ℕ) → Passes is_printed (x ++ t) → Passes is_printed (y ++ t) → n ++ 10 ∷ c ≡ x ++ 10 ∷ y → (n ≡ x) × (c ≡ y)
both-parts [] y [] c t h k e = (refl, ap rest_of e)
both-parts [] y (b ∷ n) c t h k e = absurd (no-feed n c t (subst (λ l. Passes is_printed (l ++ t)) (sym (ap rest_of e)) k))
both-parts (a ∷ x) y [] c t h k e =
    let feed : 10 ≡ a = ap head_or e in
    absurd (false≢true (ap is_printed feed ∙ (and_parts (is_printed a) (list_all is_printed (x ++ t)) h).0))
both-parts (a ∷ x) y (b ∷ n) c t h k e =
    let more = both-parts x y n c t (and_parts (is_printed a) (list_all is_printed (x ++ t)) h).1 k (ap rest_of e) in
    (ap₂ (λ p q. p ∷ q) (ap head_or e) more.0, more.1)

pub spelled-both : (n c name class : List ℕ) → bytes_eq (n ++ 10 ∷ c) (flat_map escaped name ++ 10 ∷ flat_map escaped class) ≡ (bytes_eq n (flat_map escaped name) && bytes_eq c (flat_map escaped class))
spelled-both n c name class =
    let x = flat_map escaped name in
    let y = flat_map escaped class in
    elim (cases_Bool (bytes_eq (n ++ 10 ∷ c) (x ++ 10 ∷ y))) [
      | inl t ↦
          let parts = both-parts x y n c (34 ∷ []) (printed-quoted name) (printed-quoted class) ((bytes_eq-Decides (n ++ 10 ∷ c) (x ++ 10 ∷ y)).0 t) in
          t ∙ sym (and_from (bytes_eq n x) (bytes_eq c y) ((bytes_eq-Decides n x).1 parts.0) ((bytes_eq-Decides c y).1 parts.1))
      | inr f ↦ elim (cases_Bool (bytes_eq n x && bytes_eq c y)) [
        | inr g ↦ f ∙ sym g
        | inl t ↦
            let parts = and_parts (bytes_eq n x) (bytes_eq c y) t in
            absurd (false≢true (sym f ∙ (bytes_eq-Decides (n ++ 10 ∷ c) (x ++ 10 ∷ y)).1 (ap₂ (λ p q. p ++ 10 ∷ q) ((bytes_eq-Decides n x).0 parts.0) ((bytes_eq-Decides c y).0 parts.1))))
      ]
    ]

and-none : (b : Bool) → false ≡ (b && false)
and-none true = refl
and-none false = refl

text-both : (n c : List ℕ) (name class : Option (List ℕ)) → is_text (n ++ 10 ∷ c) (both_texts (written name) (written class)) ≡ (is_written n name && is_written c class)
text-both n c None class = refl
text-both n c (Some name) None = and-none (is_written n (Some name))
text-both n c (Some name) (Some class) = spelled-both n c name class

pub classes-agree : (m : List Rec) (n c : List ℕ) (is : List ℕ) → the_one (filter (λ i. is_text (n ++ 10 ∷ c) (class_text m i)) is) ≡ the_one (filter (names_entry m (OfClass n c) kinds.Segment) is)
classes-agree m n c is = ap the_one (filter_agree (λ i. is_text (n ++ 10 ∷ c) (class_text m i)) (names_entry m (OfClass n c) kinds.Segment) (λ i. text-both n c (entry_name m kinds.Segment i) (class_name m i)) is)

-- Nothing passes a test that is always false.
pub none-passes : (is : List ℕ) → the_one (filter (λ i. false) is) ≡ Err why.Unknown
none-passes is = ap the_one (none is) where
  none : (is : List ℕ) → filter (λ i. false) is ≡ []
  none [] = refl
  none (i ∷ is) = none is

-- ---- keys by numbers

pub number-within : (k n : ℕ) → 1 ≤ k → k ≤ n → Ok k ≡ the_one (filter (λ i. k == i) (count_from 1 n))
number-within k n low high = sym (ap the_one (filter-one (λ i. k == i) 1 n k low (omega (arith, high)) (eq-eqb k k refl) (λ i first last other. ne_eqb k i (λ e. absurd (other (sym e))))))

pub number-beyond : (k n : ℕ) → (1 ≤ k → k ≤ n → ⊥) → Err why.Unknown ≡ the_one (filter (λ i. k == i) (count_from 1 n))
number-beyond k n far = sym (ap the_one (filter-none (λ i. k == i) 1 n (λ i first last. ne_eqb k i (λ e. absurd (far (omega (arith, first, e)) (omega (arith, last, e)))))))

pub module-within : (ms : List (List Rec)) (k : ℕ) → 1 ≤ k → k ≤ length ms → (j : ℕ) → j + 1 ≡ k → Ok j ≡ module_named ms (Numbered k)
module-within ms k low high j e = sym (ap the_one (filter-one (names_module ms (Numbered k)) 0 (length ms) j (omega arith) (omega (arith, high, e)) (eq-eqb k (j + 1) (sym e)) (λ i first last other. ne_eqb k (i + 1) (λ g. absurd (other (omega (arith, e, g)))))))

pub module-beyond : (ms : List (List Rec)) (k : ℕ) → (1 ≤ k → k ≤ length ms → ⊥) → Err why.Unknown ≡ module_named ms (Numbered k)
module-beyond ms k far = sym (ap the_one (filter-none (names_module ms (Numbered k)) 0 (length ms) (λ i first last. ne_eqb k (i + 1) (λ e. absurd (far (omega (arith, e)) (omega (arith, last, e)))))))

-- The last data at each place of the segments.
use Rattle.std.proofs.Common.{◌≡◌, ◌≢◌, ◌∙◌, ◌⊎◌, inl, inr, ℕ, suc, ◌+◌, ◌*◌, ◌-◌, ◌<◌, ◌≤◌, Bool, true, false, cond, eqb, List, [], ◌∷◌, ◌++◌, length, take, drop, get_or, append_assoc, append-nil, length-append, Result, Ok, Err, refl, sym, ap, subst, arith}
use Rattle.std.specs.Prelude.{◌==◌, ◌&&◌, ◌||◌, nat_lt, filter, max, min, slice_get, Option, Some, None, IsSome, IfSome, OnErr, slice_index_or}
use Rattle.std.specs.List.{last_or}
use Rattle.std.specs.Map.{lookup}
use Rattle.std.specs.Ordering.{is_eq, is_gt, is_lt, nat_cmp}
use Rattle.std.specs.BTreeMap.{BTreeMap, UpdatesBy}
use Rattle.std.specs.BTreeMap.Range.{IsEntryInRange, IsRangeOf}
use Rattle.std.specs.declared.cmp.Ordering.TheVariants.{Less, Equal, Greater}
use Rattle.std.specs.declared.ops.Bound.TheVariants.{Included, Excluded, Unbounded}
use Rattle.std.proofs.lemmas.Bool.{cases_Bool, eqb-true, eqb-false, eq-eqb, ne_eqb, ltb-true, ltb-false, lt-ltb, le-ltb, false≢true}
use Rattle.std.proofs.lemmas.List.{take-append-drop, take-append-le, length-take-le}
use Rattle.std.proofs.lemmas.List.Elements.{filter-append}
use Rattle.std.proofs.Math.Seq.{get_or-append_seam, take-suc}
use Rattle.omf_frame.specs.Bytes.{last}
use Rattle.omf_check.specs.Tables.{entry}
use Rattle.omf_lowering.specs.Patches.{has_byte_of}
use Rattle.omf_lowering.specs.Inner.Holders.{AreHeld, AreInForce, IsFrom, IsInForce, IsLaid, end_place, first_place, has_place, keyed, last_from, last_number, span}
use Rattle.omf_lowering.specs.Inner.Laid.{AreLaid, further}
use Rattle.omf_lowering.specs.declared.values.Piece.{Piece}
use Rattle.omf_lowering.proofs.LaidLaws.{ends_more}
use Rattle.omf_lowering.proofs.NameLaws.{entry_some}

-- ---- keys that are numbers

other_key : (a b : ℕ) → a ≢ b → is_eq (nat_cmp a b) ≡ false
other_key a b h = let e : eqb a b ≡ false = ne_eqb a b h in elim (cases_Bool (nat_lt a b)) [
  | inl y ↦ rw y refl
  | inr f ↦ rw (f, e) refl
]

pub not_greater : (a b : ℕ) → is_gt (nat_cmp a b) ≡ false → a ≤ b
not_greater a b h = elim (cases_Bool (nat_lt a b)) [
  | inl y ↦ let low = ltb-true a b y in omega (arith, low)
  | inr f ↦ elim (cases_Bool (eqb a b)) [
    | inl e ↦ let same = eqb-true a b e in omega (arith, same)
    | inr n ↦ absurd (false≢true (sym (rw (f, n) at h)))
  ]
]

pub not_less : (a b : ℕ) → is_lt (nat_cmp a b) ≡ false → b ≤ a
not_less a b h = elim (cases_Bool (nat_lt a b)) [
  | inl y ↦ absurd (false≢true (sym (rw y at h)))
  | inr f ↦ ltb-false a b f
]

pub none_if : {A : Type 0} (o : Option A) → (IsSome o → o ≡ None) → o ≡ None
none_if None h = refl
none_if (Some x) h = h refl

pub some_is : {A : Type 0} (o : Option A) (x : A) → o ≡ Some x → o ≡ None → x ≢ x
some_is o x is none = absurd cc

-- ---- a table with one more key

module _ (m n : BTreeMap ℕ ℕ) (key : ℕ) (w : Option ℕ) (h : UpdatesBy nat_cmp (nat_cmp key) m n w) where
  pub at_key : keyed n key ≡ w
  at_key = h.1

  pub elsewhere : (k : ℕ) → key ≢ k → keyed n k ≡ keyed m k
  elsewhere k apart = h.2 k (other_key key k apart)

-- the entries stay
unchanged : (m n : BTreeMap ℕ ℕ) → n.entries ≡ m.entries → AreInForce (keyed m) (keyed n)
unchanged m n e place x r = subst (λ (es : List (ℕ × ℕ)). IsInForce (λ k. lookup (λ q. is_eq (nat_cmp k q)) es) place x) e r

-- ---- numbers at places

below_or : (a b : ℕ) → (a < b) ⊎ (b ≤ a)
below_or a b = elim (cases_Bool (nat_lt a b)) [
  | inl y ↦ inl (ltb-true a b y)
  | inr f ↦ inr (ltb-false a b f)
]

same_number : (o : Option ℕ) (x y : ℕ) → o ≡ Some x → o ≡ Some y → x ≡ y
same_number o x y a b = cc

never : {G : Type 0} (o : Option ℕ) (x : ℕ) → o ≡ Some x → o ≡ None → G
never o x a b = absurd cc

-- no key is between two places
longer : (f : ℕ → Option ℕ) (low place x : ℕ) → low ≤ place → ((k : ℕ) → low < k → k ≤ place → f k ≡ None) → IsInForce f low x → IsInForce f place x
longer f low place x h none (inl r) = inl (record {
  key = r.key;
  low = omega (arith, r.low, h);
  is = r.is;
  last = λ k a b. elim (below_or low k) [
    | inl y ↦ none k y b
    | inr y ↦ r.last k a y
  ];
})
longer f low place x h none (inr r) = inr (record {
  is = r.is;
  none = λ k b. elim (below_or low k) [
    | inl y ↦ none k y b
    | inr y ↦ r.none k y
  ];
})

-- a key is added with the number that is in force there
module _ (f g : ℕ → Option ℕ) (end after : ℕ) (was : IsInForce f end after) (at : g end ≡ Some after) (others : (k : ℕ) → end ≢ k → g k ≡ f k) where
  same_below : (place n : ℕ) → place < end → IsInForce g place n → IsInForce f place n
  same_below place n low (inl r) = inl (record {
    key = r.key;
    low = r.low;
    is = sym (others r.key (λ e. absurd (omega (arith, e, r.low, low)))) ∙ r.is;
    last = λ k a b. sym (others k (λ e. absurd (omega (arith, e, b, low)))) ∙ r.last k a b;
  })
  same_below place n low (inr r) = inr (record {
    is = r.is;
    none = λ k b. sym (others k (λ e. absurd (omega (arith, e, b, low)))) ∙ r.none k b;
  })

  same_from : (place n : ℕ) → end ≤ place → (r : IsFrom g place n) → (end < r.key) ⊎ (r.key ≤ end) → IsInForce f place n
  same_from place n high r (inl y) = inl (record {
    key = r.key;
    low = r.low;
    is = sym (others r.key (λ e. absurd (omega (arith, e, y)))) ∙ r.is;
    last = λ k a b. sym (others k (λ e. absurd (omega (arith, e, y, a)))) ∙ r.last k a b;
  })
  same_from place n high r (inr y) = elim (below_or r.key end) [
    | inl z ↦ never (g end) after at (r.last end z high)
    | inr z ↦
        let here : r.key ≡ end = omega (arith, y, z) in
        let is : after ≡ n = same_number (g end) after n at (subst (λ (k : ℕ). g k ≡ Some n) here r.is) in
        subst (IsInForce f place) is (longer f end place after high (λ k a b. sym (others k (λ e. absurd (omega (arith, e, a)))) ∙ r.last k (omega (arith, here, a)) b) was)
  ]

  same_above : (place n : ℕ) → end ≤ place → IsInForce g place n → IsInForce f place n
  same_above place n high (inl r) = same_from place n high r (below_or end r.key)
  same_above place n high (inr r) = never (g end) after at (r.none end high)

  pub same_with : AreInForce f g
  same_with place n r = elim (below_or place end) [
    | inl y ↦ same_below place n y r
    | inr y ↦ same_above place n y r
  ]

-- then a number is given to the places up to this key
module _ (g h : ℕ → Option ℕ) (first end after number : ℕ) (some : first < end) (at : g end ≡ Some after) (here : h first ≡ Some number)
    (inside : (k : ℕ) → first < k → k < end → h k ≡ None) (others : (k : ℕ) → (k < first) ⊎ (end ≤ k) → h k ≡ g k) where
  abbrev Is : ℕ → ℕ → Type 0
  Is place n = ((first ≤ place) × (place < end) × (n ≡ number)) ⊎ (((place < first) ⊎ (end ≤ place)) × IsInForce g place n)

  laid_below : (place n : ℕ) → place < first → IsInForce h place n → Is place n
  laid_below place n low (inl r) = inr (
    inl low,
    inl (record {
      key = r.key;
      low = r.low;
      is = sym (others r.key (inl (omega (arith, r.low, low)))) ∙ r.is;
      last = λ k a b. sym (others k (inl (omega (arith, b, low)))) ∙ r.last k a b;
    }),
  )
  laid_below place n low (inr r) = inr (inl low, inr (record { is = r.is; none = λ k b. sym (others k (inl (omega (arith, b, low)))) ∙ r.none k b }))

  laid_inside : (place n : ℕ) → first ≤ place → place < end → IsInForce h place n → Is place n
  laid_inside place n low high (inl r) = elim (below_or first r.key) [
    | inl y ↦ never (h r.key) n r.is (inside r.key y (omega (arith, r.low, high)))
    | inr y ↦ elim (below_or r.key first) [
      | inl z ↦ never (h first) number here (r.last first z low)
      | inr z ↦
          let same : r.key ≡ first = omega (arith, y, z) in
          inl (low, high, same_number (h first) n number (subst (λ (k : ℕ). h k ≡ Some n) same r.is) here)
    ]
  ]
  laid_inside place n low high (inr r) = never (h first) number here (r.none first low)

  there : h end ≡ Some after
  there = others end (inr (omega arith)) ∙ at

  laid_above : (place n : ℕ) → end ≤ place → IsInForce h place n → Is place n
  laid_above place n high (inl r) = elim (below_or r.key end) [
    | inl y ↦ never (h end) after there (r.last end y high)
    | inr y ↦ inr (
      inr high,
      inl (record {
        key = r.key;
        low = r.low;
        is = sym (others r.key (inr y)) ∙ r.is;
        last = λ k a b. sym (others k (inr (omega (arith, y, a)))) ∙ r.last k a b;
      }),
    )
  ]
  laid_above place n high (inr r) = never (h end) after there (r.none end high)

  laid_over : IsLaid g h first end number
  laid_over place n r = elim (below_or place first) [
    | inl y ↦ laid_below place n y r
    | inr y ↦ elim (below_or place end) [
      | inl z ↦ laid_inside place n y z r
      | inr z ↦ laid_above place n z r
    ]
  ]

laid_after : (f g h : ℕ → Option ℕ) (first end number : ℕ) → AreInForce f g → IsLaid g h first end number → IsLaid f h first end number
laid_after f g h first end number same laid place n r = elim (laid place n r) [
  | inl a ↦ inl a
  | inr b ↦ inr (b.0, same place n b.1)
]

-- the steps of `lay`
module _ (m0 m1 : BTreeMap ℕ ℕ) (end after : ℕ) (was : IsInForce (keyed m0) end after) where
  pub first_fails : m1.entries ≡ m0.entries → AreInForce (keyed m0) (keyed m1)
  first_fails e = unchanged m0 m1 e

  module _ (added : UpdatesBy nat_cmp (nat_cmp end) m0 m1 (Some after)) where
    pub same_added : AreInForce (keyed m0) (keyed m1)
    same_added = same_with (keyed m0) (keyed m1) end after was (at_key m0 m1 end (Some after) added) (elsewhere m0 m1 end (Some after) added)

    pub second_fails : (m2 : BTreeMap ℕ ℕ) → m2.entries ≡ m1.entries → AreInForce (keyed m0) (keyed m2)
    second_fails m2 e place n r = same_added place n (unchanged m1 m2 e place n r)

    pub all_laid : (m2 m3 : BTreeMap ℕ ℕ) (first number : ℕ) → first < end → UpdatesBy nat_cmp (nat_cmp first) m1 m2 (Some number)
        → ((k : ℕ) → first < k → k < end → keyed m3 k ≡ None) → ((k : ℕ) → (k ≤ first) ⊎ (end ≤ k) → keyed m3 k ≡ keyed m2 k) → IsLaid (keyed m0) (keyed m3) first end number
    all_laid m2 m3 first number some more inside others =
        laid_after (keyed m0) (keyed m1) (keyed m3) first end number same_added
        (laid_over (keyed m1) (keyed m3) first end after number some (at_key m0 m1 end (Some after) added) (others first (inl (omega arith)) ∙ at_key m1 m2 first (Some number) more) inside
        (λ k o. elim o [
          | inl y ↦ others k (inl (omega (arith, y))) ∙ elsewhere m1 m2 first (Some number) more k (λ e. absurd (omega (arith, e, y)))
          | inr y ↦ others k (inr y) ∙ elsewhere m1 m2 first (Some number) more k (λ e. absurd (omega (arith, e, y, some)))
        ]))

-- ---- the number of the last data that pass

entry_here : (front : List Piece) (p : Piece) (rest : List Piece) → entry (front ++ (p ∷ rest)) (length front + 1) ≡ Some p
entry_here front p rest =
    let all = length-append front (p ∷ rest) in
    entry_some (front ++ (p ∷ rest)) (length front + 1) (length front) p refl (omega (arith, all)) (sym (get_or-append_seam front p rest p))

module _ (test : Piece → Bool) where
  more_from : (count found : ℕ) (ps : List Piece) (p : Piece) → last_from test count found (ps ++ p ∷ []) ≡ cond (test p) (count + length ps + 1) (last_from test count found ps)
  more_from count found [] p = ap (λ n. cond (test p) n found) (omega arith)
  more_from count found (q ∷ ps) p =
      let same : count + 1 + length ps + 1 ≡ count + suc (length ps) + 1 = omega arith in
      more_from (count + 1) (cond (test q) (count + 1) found) ps p ∙ ap (λ n. cond (test p) n (last_from test (count + 1) (cond (test q) (count + 1) found) ps)) same

  pub last_more : (ps : List Piece) (p : Piece) → last_number test (ps ++ p ∷ []) ≡ cond (test p) (length ps + 1) (last_number test ps)
  last_more ps p =
      let same : 0 + length ps + 1 ≡ length ps + 1 = omega arith in
      more_from 0 0 ps p ∙ ap (λ n. cond (test p) n (last_number test ps)) same

  last_entry_from : (front ps rest : List Piece) (o : Option Piece) (found : ℕ) → o ≡ entry (front ++ (ps ++ rest)) found
      → last_or o (filter test ps) ≡ entry (front ++ (ps ++ rest)) (last_from test (length front) found ps)
  last_entry_from front [] rest o found h = h
  last_entry_from front (p ∷ ps) rest o found h =
      let longer_front : (front ++ p ∷ []) ++ (ps ++ rest) ≡ front ++ (p ∷ (ps ++ rest)) = append_assoc front (p ∷ []) (ps ++ rest) in
      let count : length (front ++ p ∷ []) ≡ length front + 1 = length-append front (p ∷ []) in
      let next : (o2 : Option Piece) (found2 : ℕ) → o2 ≡ entry (front ++ (p ∷ (ps ++ rest))) found2
      → last_or o2 (filter test ps) ≡ entry (front ++ (p ∷ (ps ++ rest))) (last_from test (length front + 1) found2 ps) =
      λ o2 found2 e.
      subst (λ (l : List Piece). last_or o2 (filter test ps) ≡ entry l (last_from test (length front + 1) found2 ps)) longer_front
      (subst (λ (n : ℕ). last_or o2 (filter test ps) ≡ entry ((front ++ p ∷ []) ++ (ps ++ rest)) (last_from test n found2 ps)) count
      (last_entry_from (front ++ p ∷ []) ps rest o2 found2 (e ∙ ap (λ l. entry l found2) (sym longer_front)))) in
      elim (cases_Bool (test p)) [
        | inl y ↦ rw (y) (next (Some p) (length front + 1) (sym (entry_here front p (ps ++ rest))))
        | inr n ↦ rw (n) (next o found h)
      ]

  pub last_entry : (ps rest : List Piece) → entry (ps ++ rest) (last_number test ps) ≡ last (filter test ps)
  last_entry ps rest = sym (last_entry_from [] ps rest None 0 refl)

either_from : (a b : Piece → Bool) (count x y : ℕ) (ps : List Piece) → x ≤ count → y ≤ count
    → last_from (λ p. a p || b p) count (max x y) ps ≡ max (last_from a count x ps) (last_from b count y ps)
either_from a b count x y [] h k = refl
either_from a b count x y (p ∷ ps) h k = elim (cases_Bool (a p)) [
  | inl s ↦ elim (cases_Bool (b p)) [
    | inl t ↦ rw (s, t) (ap (λ n. last_from (λ p. a p || b p) (count + 1) n ps) (omega arith) ∙ either_from a b (count + 1) (count + 1) (count + 1) ps (omega arith) (omega arith))
    | inr t ↦ rw (s, t) (ap (λ n. last_from (λ p. a p || b p) (count + 1) n ps) (omega (arith, k)) ∙ either_from a b (count + 1) (count + 1) y ps (omega arith) (omega (arith, k)))
  ]
  | inr s ↦ elim (cases_Bool (b p)) [
    | inl t ↦ rw (s, t) (ap (λ n. last_from (λ p. a p || b p) (count + 1) n ps) (omega (arith, h)) ∙ either_from a b (count + 1) x (count + 1) ps (omega (arith, h)) (omega arith))
    | inr t ↦ rw (s, t) (either_from a b (count + 1) x y ps (omega (arith, h)) (omega (arith, k)))
  ]
]

-- ---- data at places

all_same : {A B : Type 0} (f g : A → B) → ((x : A) → f x ≡ g x) → f ≡ g
all_same f g h n x = h x n

some_places : (p : Piece) → first_place p < end_place p
some_places p = elim (cases_Bool (p.size == 0)) [
  | inl y ↦ rw (y) (omega arith)
  | inr n ↦ let some = eqb-false p.size 0 n in rw (n) (omega (arith, some))
]

step_by : (F E f e : ℕ) → f ≤ e → F < E → (nat_lt F (e + 1) && nat_lt f E) ≡ ((nat_lt F e && nat_lt f E) || (nat_lt F (e + 1) && nat_lt e E))
step_by F E f e h k = elim (below_or F e) [
  | inl low ↦ elim (below_or e E) [
    | inl y ↦ rw (lt-ltb F (e + 1) (omega (arith, low)), lt-ltb F e low, lt-ltb f E (omega (arith, h, y))) refl
    | inr y ↦ elim (below_or f E) [
      | inl z ↦ rw (lt-ltb F (e + 1) (omega (arith, low)), lt-ltb F e low, lt-ltb f E z) refl
      | inr z ↦ rw (lt-ltb F (e + 1) (omega (arith, low)), lt-ltb F e low, le-ltb f E z, le-ltb e E y) refl
    ]
  ]
  | inr high ↦ elim (below_or F (e + 1)) [
    | inl y ↦ rw (lt-ltb F (e + 1) y, le-ltb F e high, lt-ltb f E (omega (arith, h, k, high)), lt-ltb e E (omega (arith, k, high))) refl
    | inr y ↦ rw (le-ltb F (e + 1) y, le-ltb F e high) refl
  ]
]

and_none : (b : Bool) → (b && false) ≡ false
and_none true = refl
and_none false = refl

shared : (s a b c : Bool) → a ≡ (b || c) → (s && a) ≡ ((s && b) || (s && c))
shared true a b c e = e
shared false a b c e = refl

pub more_places : (s first end : ℕ) (ps : List Piece) → first ≤ end
    → max (last_number (has_place s first end) ps) (last_number (has_place s end (end + 1)) ps) ≡ last_number (has_place s first (end + 1)) ps
more_places s first end ps h =
    sym (either_from (has_place s first end) (has_place s end (end + 1)) 0 0 0 ps (omega arith) (omega arith))
    ∙ ap (λ t. last_number t ps) (sym (all_same (has_place s first (end + 1)) (λ p. has_place s first end p || has_place s end (end + 1) p)
    (λ p. shared (p.segment == s) _ _ _ (step_by (first_place p) (end_place p) first end h (some_places p)))))

ltb_same : (a b c d : ℕ) → (a < b → c < d) → (c < d → a < b) → nat_lt a b ≡ nat_lt c d
ltb_same a b c d f g = elim (below_or a b) [
  | inl y ↦ lt-ltb a b y ∙ sym (lt-ltb c d (f y))
  | inr y ↦ le-ltb a b y ∙ sym (le-ltb c d (elim (below_or c d) [
    | inl z ↦ let w = g z in absurd (omega (arith, w, y))
    | inr z ↦ z
  ]))
]

both : (s a b c d : Bool) → a ≡ d → b ≡ c → (s && (a && b)) ≡ (s && (c && d))
both true true true c d e f = f ∙ sym (rw (sym e, sym f) refl)
both true true false c d e f = f ∙ sym (rw (sym e, sym f) refl)
both true false b c d e f = e ∙ sym (rw (sym e) (and_none c))
both false a b c d e f = refl

pub at_location : (s offset size : ℕ) (p : Piece) → 1 ≤ size → has_place s (2 * offset + 1) (2 * offset + 1 + (2 * size - 1)) p ≡ has_byte_of s offset size p
at_location s offset size p h =
    let end : 2 * offset + 1 + (2 * size - 1) ≡ 2 * (offset + size) = omega (arith, h) in
    elim (cases_Bool (p.size == 0)) [
      | inl y ↦
          let none = eqb-true p.size 0 y in
          rw (end, y) (both (p.segment == s) _ _ _ _
          (ltb_same (2 * p.offset + 0) (2 * (offset + size)) p.offset (offset + size) (λ l. omega (arith, l)) (λ l. omega (arith, l)))
          (ltb_same (2 * offset + 1) (2 * (p.offset + p.size) + 1) offset (p.offset + p.size) (λ l. omega (arith, l)) (λ l. omega (arith, l))))
      | inr n ↦
          rw (end, n) (both (p.segment == s) _ _ _ _
          (ltb_same (2 * p.offset + 1) (2 * (offset + size)) p.offset (offset + size) (λ l. omega (arith, l)) (λ l. omega (arith, l)))
          (ltb_same (2 * offset + 1) (2 * (p.offset + p.size) + 0) offset (p.offset + p.size) (λ l. omega (arith, l)) (λ l. omega (arith, l))))
    ]

pub number_at_location : (s offset size : ℕ) (ps : List Piece) → 1 ≤ size → last_number (has_place s (2 * offset + 1) (2 * offset + 1 + (2 * size - 1))) ps ≡ last_number (has_byte_of s offset size) ps
number_at_location s offset size ps h = ap (λ t. last_number t ps) (all_same (has_place s (2 * offset + 1) (2 * offset + 1 + (2 * size - 1))) (has_byte_of s offset size) (λ p. at_location s offset size p h))

-- ---- more data

has : (s place : ℕ) (p : Piece) → p.segment ≡ s → first_place p ≤ place → place < end_place p → has_place s place (place + 1) p ≡ true
has s place p same low high = rw (eq-eqb p.segment s same, lt-ltb (first_place p) (place + 1) (omega (arith, low)), lt-ltb place (end_place p) high) refl

has_not : (s place : ℕ) (p : Piece) → place < span → (s * span + place < p.segment * span + first_place p) ⊎ (p.segment * span + min (end_place p) span ≤ s * span + place) → has_place s place (place + 1) p ≡ false
has_not s place p low o = elim (cases_Bool (p.segment == s)) [
  | inr n ↦ rw (n) refl
  | inl y ↦
      let same = eqb-true p.segment s y in
      elim o [
        | inl a ↦ let above : place + 1 ≤ first_place p = omega (arith, a, same) in rw (y, le-ltb (first_place p) (place + 1) above) refl
        | inr b ↦ let above : end_place p ≤ place = omega (arith, b, same, low) in rw (y, le-ltb place (end_place p) above) (and_none (nat_lt (first_place p) (place + 1)))
      ]
]

pub held_more : (f h : ℕ → Option ℕ) (ps : List Piece) (p : Piece) (number : ℕ) → AreHeld f ps → IsLaid f h (p.segment * span + first_place p) (p.segment * span + min (end_place p) span) number
    → number ≡ length ps + 1 → AreHeld h (ps ++ p ∷ [])
held_more f h ps p number held laid is = record {
  each = λ s place n low r.
      let test = has_place s place (place + 1) in
      elim (laid (s * span + place) n r) [
        | inl a ↦
            let same : p.segment ≡ s = omega (arith, a.0, a.1, low) in
            let first : first_place p ≤ place = omega (arith, a.0, same) in
            let end : place < end_place p = omega (arith, a.1, same) in
            a.2 ∙ is ∙ sym (last_more test ps p ∙ ap (λ b. cond b (length ps + 1) (last_number test ps)) (has s place p same first end))
        | inr b ↦ held.each s place n low b.1 ∙ sym (last_more test ps p ∙ ap (λ c. cond c (length ps + 1) (last_number test ps)) (has_not s place p low b.0))
      ];
}

-- ---- ranges of keys

at_most : (a b : ℕ) → a ≤ b → is_gt (nat_cmp a b) ≡ false
at_most a b h = elim (cases_Bool (nat_lt a b)) [
  | inl y ↦ rw (y) refl
  | inr f ↦ let low = ltb-false a b f in rw (f, eq-eqb a b (omega (arith, low, h))) refl
]

less : (a b : ℕ) → nat_cmp a b ≡ Less → a < b
less a b h = elim (cases_Bool (nat_lt a b)) [
  | inl y ↦ ltb-true a b y
  | inr f ↦ elim (cases_Bool (eqb a b)) [
    | inl e ↦ let same : Equal ≡ Less = rw (f, e) at h in absurd cc
    | inr n ↦ let same : Greater ≡ Less = rw (f, n) at h in absurd cc
  ]
]

is_less : (a b : ℕ) → a < b → nat_cmp a b ≡ Less
is_less a b h = rw (lt-ltb a b h) refl

pub last_up_to : (m : BTreeMap ℕ ℕ) (place : ℕ) (r rest : List (ℕ × ℕ)) (e : ℕ × ℕ) → IsRangeOf nat_cmp Unbounded (Included place) m r → r ≡ rest ++ e ∷ [] → IsInForce (keyed m) place e.1
last_up_to m place r rest e h is = inl (record {
  key = e.0;
  low = not_greater e.0 place (h.3 e rest is).0.1;
  is = (h.3 e rest is).1;
  last = λ k a b. none_if (keyed m k) (λ some. let low = not_less e.0 k (h.4 e rest is k (tt, at_most k place b) some) in absurd (omega (arith, low, a)));
})

pub none_up_to : (m : BTreeMap ℕ ℕ) (place : ℕ) (r : List (ℕ × ℕ)) → IsRangeOf nat_cmp Unbounded (Included place) m r → r ≡ [] → IsInForce (keyed m) place 0
none_up_to m place r h is = inr (record { is = refl; none = λ k b. h.5 is k (tt, at_most k place b) })

pub key_in : (m : BTreeMap ℕ ℕ) (first end : ℕ) (r rest : List (ℕ × ℕ)) (e : ℕ × ℕ) → IsRangeOf nat_cmp (Included (first + 1)) (Excluded end) m r → r ≡ e ∷ rest
    → (first < e.0) × (e.0 < end) × IsSome (keyed m e.0)
key_in m first end r rest e h is =
    let at : IsEntryInRange nat_cmp (Included (first + 1)) (Excluded end) m e = subst (λ (l : List (ℕ × ℕ)). IfSome (slice_get l 0) (IsEntryInRange nat_cmp (Included (first + 1)) (Excluded end) m)) is h.1 in
    let low = not_greater (first + 1) e.0 at.0.0 in
    (omega (arith, low), less e.0 end at.0.1, subst IsSome (sym at.1) refl)

pub no_key_in : (m : BTreeMap ℕ ℕ) (first end : ℕ) (r : List (ℕ × ℕ)) → IsRangeOf nat_cmp (Included (first + 1)) (Excluded end) m r → r ≡ [] → (k : ℕ) → first < k → k < end → keyed m k ≡ None
no_key_in m first end r h is k a b = h.5 is k (at_most (first + 1) k (omega (arith, a)), is_less k end b)

pub forward : (first end : ℕ) → first < end → is_gt (nat_cmp (first + 1) end) ≡ false
forward first end h = at_most (first + 1) end (omega (arith, h))

-- ---- the steps of the functions

pub place_order : (p : Piece) (s first end : ℕ) → first ≡ s * span + first_place p → first < s * span + 17179869184 → end ≡ s * span + min (end_place p) span → first < end
place_order p s first end a low b = let some = some_places p in omega (arith, a, low, b, some)

pub held_by : (f h : ℕ → Option ℕ) (ps : List Piece) (p : Piece) (first end number : ℕ) → first ≡ p.segment * span + first_place p → end ≡ p.segment * span + min (end_place p) span
    → AreHeld f ps → number ≡ length ps + 1 → IsLaid f h first end number → AreHeld h (ps ++ p ∷ [])
held_by f h ps p first end number a b held is laid =
    held_more f h ps p number held (subst (λ (x : ℕ). IsLaid f h x (p.segment * span + min (end_place p) span) number) a (subst (λ (y : ℕ). IsLaid f h first y number) b laid)) is

pub held_same : (f h : ℕ → Option ℕ) (ps : List Piece) → AreHeld f ps → AreInForce f h → AreHeld h ps
held_same f h ps held same = record { each = λ s place n low r. held.each s place n low (same (s * span + place) n r) }

pub on_err : {A E P Q : Type 0} (r : Result A E) → (P → Q) → OnErr r P → OnErr r Q
on_err (Ok x) f h = h
on_err (Err e) f h = f h

pub place_number : (f : ℕ → Option ℕ) (ps : List Piece) (s place at n : ℕ) → AreHeld f ps → at ≡ s * span + place → place < span → IsInForce f at n → n ≡ last_number (has_place s place (place + 1)) ps
place_number f ps s place at n held is low r = held.each s place n low (subst (λ (x : ℕ). IsInForce f x n) is r)

pub one_more : (f : ℕ → Option ℕ) (ps : List Piece) (s first more at number x new : ℕ) → AreHeld f ps → at ≡ s * span + (first + more) → first + more < span → IsInForce f at x
    → number ≡ last_number (has_place s first (first + more)) ps → new ≡ max number x → new ≡ last_number (has_place s first (first + (more + 1))) ps
one_more f ps s first more at number x new held is low r was larger =
    let up : first ≤ first + more = omega arith in
    let next : first + more + 1 ≡ first + (more + 1) = omega arith in
    larger ∙ ap (λ n. max n x) was ∙ ap (λ n. max (last_number (has_place s first (first + more)) ps) n) (place_number f ps s (first + more) at x held is low r)
    ∙ more_places s first (first + more) ps up ∙ ap (λ e. last_number (has_place s first e) ps) next

pub not_newer : (test : Piece → Bool) (ps : List Piece) (held number : ℕ) (o : Option Piece) → filter test (drop held ps) ≡ [] → number ≡ last_number test (take held ps) → o ≡ entry ps number
    → o ≡ last (filter test ps)
not_newer test ps held number o none is found =
    let front = take held ps in
    let rest = drop held ps in
    let all : front ++ rest ≡ ps = take-append-drop held ps in
    let kept : filter test (front ++ rest) ≡ filter test front = filter-append test front rest ∙ ap (λ l. filter test front ++ l) none ∙ append-nil (filter test front) in
    found ∙ ap (entry ps) is ∙ ap (λ l. entry l (last_number test front)) (sym all) ∙ last_entry test front rest ∙ ap last (sym kept) ∙ ap (λ l. last (filter test l)) all

pub laid_more : (ends new : List ℕ) (numbers : BTreeMap ℕ ℕ) (held : ℕ) (ps : List Piece) (p : Piece) → AreLaid ends numbers held ps
    → ((s : ℕ) → slice_index_or new s 0 ≡ further s (slice_index_or ends s 0) p) → AreLaid new numbers held (ps ++ p ∷ [])
laid_more ends new numbers held ps p laid noted = record {
  reach = ends_more ends new ps p laid.reach noted;
  few = let more = length-append ps (p ∷ []) in omega (arith, laid.few, more);
  holders = subst (AreHeld (keyed numbers)) (sym (take-append-le held ps (p ∷ []) laid.few)) laid.holders;
}

pub next_held : (ends : List ℕ) (old new : BTreeMap ℕ ℕ) (held next : ℕ) (ps : List Piece) (p : Piece) → AreLaid ends old held ps → held < length ps → p ≡ get_or ps held p → next ≡ held + 1
    → ((before : List Piece) → AreHeld (keyed old) before → next ≡ length before + 1 → AreHeld (keyed new) (before ++ p ∷ [])) → AreLaid ends new next ps
next_held ends old new held next ps p laid low here is step =
    let count : length (take held ps) ≡ held = length-take-le held ps laid.few in
    let more : next ≡ length (take held ps) + 1 = omega (arith, is, count) in
    let up : next ≡ suc held = omega (arith, is) in
    let all : take held ps ++ p ∷ [] ≡ take next ps = ap (λ q. take held ps ++ q ∷ []) here ∙ sym (take-suc ps held p low) ∙ ap (λ n. take n ps) (sym up) in
    record {
      reach = laid.reach;
      few = omega (arith, is, low);
      holders = subst (AreHeld (keyed new)) all (step (take held ps) laid.holders more);
    }

pub still_held : (ends : List ℕ) (old new : BTreeMap ℕ ℕ) (held : ℕ) (ps : List Piece) → AreLaid ends old held ps → ((before : List Piece) → AreHeld (keyed old) before → AreHeld (keyed new) before) → AreLaid ends new held ps
still_held ends old new held ps laid step = record { reach = laid.reach; few = laid.few; holders = step (take held ps) laid.holders }

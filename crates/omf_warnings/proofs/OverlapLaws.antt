-- A sweep over segments in rising order finds the first two that overlap.
use Rattle.std.proofs.Common.{◌≡◌, ◌≢◌, ◌⊎◌, inl, inr, ℕ, ◌<◌, ◌≤◌, suc, List, [], ◌∷◌, ◌++◌, append-nil, length, refl, sym, ap, subst, ◌∙◌, arith, Bool, true, false, ◌&&◌, nat_lt, if◌then◌else◌, Option, Some, None}
use Rattle.std.proofs.lemmas.Bool.{cases_eq}
use Rattle.std.proofs.lemmas.Bool.Decides.{nat_tests}
use Rattle.std.specs.Prelude.{⊤, All}
use Rattle.std.specs.List.{AllPairs, slice_index_or, swap}
use Rattle.std.specs.List.Sorted.{IsPermutation, IsNonDecreasingBy}
use Rattle.std.specs.Str.{bytes_eq}
use Rattle.std.proofs.lemmas.List.Elements.{All-cons, All-nil}
use Rattle.std.proofs.lemmas.List.Edits.{Swapped, swapped_from_swap, length-swap}
use Rattle.std.proofs.lemmas.List.Kept.{AllPairs-cons}
use Rattle.std.proofs.lemmas.List.Sorted.{IsPermutation-refl, IsPermutation-sym, IsPermutation-trans, IsPermutation-cons, IsPermutation-middle, IsPermutation-append_left, IsPermutation-append_comm, IsPermutation-keeps}
use Rattle.std.proofs.lemmas.Slice.Eq.{bytes_eq-Decides}
use Rattle.omf_warnings.specs.Overlaps.{may_share_by, may_share, Overlap, begin_of, AreTwoOf, IsFirstOverlap}
use Rattle.omf_warnings.specs.Inner.Overlapping.{rival, reaching, clash, further, other_with, found_or, swept}
use Rattle.omf_warnings.specs.declared.span.Sharing.{Sharing}
use Rattle.omf_warnings.specs.declared.span.Sharing.TheVariants as sharing
use Rattle.omf_warnings.specs.declared.span.Span.{Span}

-- ---- what holds of each two elements, in any order

-- where a swap of a and b took the element at m from
abbrev From : ℕ → ℕ → ℕ → ℕ → Type 0
From a b m k = ((m ≡ a) × (k ≡ b)) ⊎ (((m ≡ b) × (k ≡ a)) ⊎ ((m ≢ a) × (m ≢ b) × (k ≡ m)))

origin : {X : Type 0} (f g : ℕ → X) (a b m : ℕ) → Swapped f g a b → (m ≡ a) ⊎ (m ≢ a) → (m ≡ b) ⊎ (m ≢ b) → (k : ℕ) × From a b m k × (g m ≡ f k)
origin f g a b m s (inl e) y = (b, inl (e, refl), ap g e ∙ s.0)
origin f g a b m s (inr n) (inl e) = (a, inr (inl (e, refl)), ap g e ∙ s.1)
origin f g a b m s (inr n) (inr o) = (m, inr (inr (n, o, refl)), s.2 m n o)

module _ {X : Type 0} (R : X → X → Type 0) (either : (x y : X) → R x y → R y x) where
  two : (xs : List X) → AllPairs R xs → (i j : ℕ) (d : X) → i ≢ j → i < length xs → j < length xs → R (slice_index_or xs i d) (slice_index_or xs j d)
  two xs h i j d apart p q = by (nat_lt i j) refl
    where
      by : (t : Bool) → nat_lt i j ≡ t → R (slice_index_or xs i d) (slice_index_or xs j d)
      by true e = h i j d (grind (arith, nat_tests)) q
      by false e = either _ _ (h j i d (grind (arith, nat_tests)) p)

  pairs_swap : (xs : List X) (a b : ℕ) → a < length xs → b < length xs → AllPairs R xs → AllPairs R (swap xs a b)
  pairs_swap xs a b p q h i j d less within =
      let len = length-swap xs a b in
      let s = swapped_from_swap xs (swap xs a b) a b d p q refl in
      let x = origin _ _ a b i s (cases_eq i a) (cases_eq i b) in
      let y = origin _ _ a b j s (cases_eq j a) (cases_eq j b) in
      let other : x.0 ≢ y.0 = λ e. omega (arith, x.1, y.1, e, less) in
      let r = two xs h x.0 y.0 d other (omega (arith, x.1, len, less, within)) (omega (arith, y.1, len, within)) in
      subst (λ u. R u (slice_index_or (swap xs a b) j d)) (sym x.2) (subst (λ v. R (slice_index_or xs x.0 d) v) (sym y.2) r)

  pub pairs_permutation : (xs ys : List X) → IsPermutation xs ys → AllPairs R xs → AllPairs R ys
  pairs_permutation xs ys moved h = IsPermutation-keeps xs (AllPairs R) h pairs_swap ys moved

-- ---- which may share addresses

abbrev Shared : Span → Span → Type 0
Shared a b = ((a.sharing ≡ sharing.Common) × (b.sharing ≡ sharing.Common) × (a.name.now ≡ b.name.now) × (a.class.now ≡ b.class.now)) ⊎ ((a.sharing ≡ sharing.Absolute) × (b.sharing ≡ sharing.Absolute))

both : (s t : Bool) → s && t ≡ true → (s ≡ true) × (t ≡ true)
both true true e = (refl, refl)
both true false e = absurd cc
both false true e = absurd cc
both false false e = absurd cc

opened : (a b : Span) → may_share a b ≡ true → Shared a b
opened a b e = by a.sharing b.sharing refl refl e
  where
    by : (x y : Sharing) → a.sharing ≡ x → b.sharing ≡ y → may_share_by x y (bytes_eq a.name.now b.name.now && bytes_eq a.class.now b.class.now) ≡ true → Shared a b
    by sharing.Common sharing.Common p q h = let s = both _ _ h in inl (p, q, (bytes_eq-Decides _ _).0 s.0, (bytes_eq-Decides _ _).0 s.1)
    by sharing.Absolute sharing.Absolute p q h = inr (p, q)
    by sharing.Common sharing.Absolute p q h = absurd cc
    by sharing.Common sharing.Alone p q h = absurd cc
    by sharing.Absolute sharing.Common p q h = absurd cc
    by sharing.Absolute sharing.Alone p q h = absurd cc
    by sharing.Alone sharing.Common p q h = absurd cc
    by sharing.Alone sharing.Absolute p q h = absurd cc
    by sharing.Alone sharing.Alone p q h = absurd cc

closed : (a b : Span) → Shared a b → may_share a b ≡ true
closed a b (inl (p, q, n, c)) =
    let s : bytes_eq a.name.now b.name.now ≡ true = (bytes_eq-Decides _ _).1 n in
    let t : bytes_eq a.class.now b.class.now ≡ true = (bytes_eq-Decides _ _).1 c in
    rw (p, q, s, t) refl
closed a b (inr (p, q)) = rw (p, q) refl

share_back : (a b : Span) → may_share a b ≡ true → may_share b a ≡ true
share_back a b e = elim (opened a b e) [
  | inl h ↦ closed b a (inl (h.1, h.0, sym h.2, sym h.3))
  | inr h ↦ closed b a (inr (h.1, h.0))
]

share_on : (a b c : Span) → may_share a b ≡ true → may_share b c ≡ true → may_share a c ≡ true
share_on a b c e f = by (opened a b e) (opened b c f)
  where
    by : Shared a b → Shared b c → may_share a c ≡ true
    by (inl h) (inl k) = closed a c (inl (h.0, k.1, h.2 ∙ k.2, h.3 ∙ k.3))
    by (inr h) (inr k) = closed a c (inr (h.0, k.1))
    by (inl h) (inr k) = absurd cc
    by (inr h) (inl k) = absurd cc

apart_back : (a b : Span) → may_share a b ≡ false → may_share b a ≡ false
apart_back a b e = by (may_share b a) refl
  where
    by : (t : Bool) → may_share b a ≡ t → t ≡ false
    by false h = refl
    by true h = let back = share_back b a h in cc

overlap_back : (a b : Span) → Overlap a b → Overlap b a
overlap_back a b h = record { one = h.other; other = h.one; here = h.there; there = h.here; apart = apart_back a b h.apart }

-- ---- members

abbrev In : Span → List Span → Type 0
In s [] = ⊥
In s (x ∷ xs) = (s ≡ x) ⊎ In s xs

all_of : (P : Span → Type 0) (xs : List Span) → ((s : Span) → In s xs → P s) → All P xs
all_of P [] h = All-nil P
all_of P (x ∷ xs) h = All-cons P x xs (h x (inl refl)) (all_of P xs (λ s i. h s (inr i)))

taken_out : (s : Span) (xs : List Span) → In s xs → (rest : List Span) × IsPermutation xs (s ∷ rest)
taken_out s [] i = absurd i
taken_out s (x ∷ xs) (inl e) = (xs, subst (λ (y : Span). IsPermutation (x ∷ xs) (y ∷ xs)) (sym e) (IsPermutation-refl (x ∷ xs)))
taken_out s (x ∷ xs) (inr i) =
    let h = taken_out s xs i in
    (x ∷ h.0, IsPermutation-trans _ _ _ (IsPermutation-cons x xs (s ∷ h.0) h.1) (IsPermutation-middle (x ∷ []) s h.0))

-- ---- segments in rising order

abbrev pub Rises : ℕ → List Span → Type 0
Rises low [] = ⊤
Rises low (s ∷ ss) = (low ≤ s.first) × Rises s.first ss

abbrev Apart : Span → Span → Type 0
Apart a b = Overlap a b → ⊥

abbrev NotBelow : ℕ → Span → Span → Type 0
NotBelow m a b = Overlap a b → m ≤ begin_of a b

not_below_back : (m : ℕ) (a b : Span) → NotBelow m a b → NotBelow m b a
not_below_back m a b h o = let k = h (overlap_back b a o) in omega (arith, k)

in_front : (m low : ℕ) (ds fs : List Span) → m ≤ low → Rises low ds → AllPairs (NotBelow m) fs → AllPairs (NotBelow m) (ds ++ fs)
in_front m low [] fs le r h = h
in_front m low (d ∷ ds) fs le r h = AllPairs-cons (NotBelow m) d (ds ++ fs) (λ k x within over. omega (arith, le, r.0)) (in_front m d.first ds fs (omega (arith, le, r.0)) r.1 h)

-- ---- the segments so far: the furthest is g

abbrev end_of : Option Span → ℕ
end_of None = 0
end_of (Some s) = s.end

record SoFar (g : Span) (other : Option Span) (low : ℕ) (fs : List Span) : Type 0 where
  apart : AllPairs Apart fs
  rises : (s : Span) → In s fs → s.first ≤ low
  ends : (s : Span) → In s fs → s.end ≤ g.end
  others : (s : Span) → may_share g g ≡ true → In s fs → may_share g s ≡ false → s.end ≤ end_of other
  has : In g fs
  other_in : (o : Span) → other ≡ Some o → In o fs × (may_share g o ≡ false)

reaching_some : (s e : Span) (o : Option Span) → reaching s o ≡ Some e → (o ≡ Some e) × (s.first < e.end)
reaching_some s e None h = absurd cc
reaching_some s e (Some x) h = by (nat_lt s.first x.end) refl h
  where
    by : (t : Bool) → nat_lt s.first x.end ≡ t → (if t then Some x else None) ≡ Some e → (Some x ≡ Some e) × (s.first < e.end)
    by true t h = let same : x ≡ e = cc in let lt : s.first < x.end = grind (arith, nat_tests) in (h, subst (λ (y : Span). s.first < y.end) same lt)
    by false t h = absurd cc

reaching_none : (s : Span) (o : Option Span) → reaching s o ≡ None → end_of o ≤ s.first
reaching_none s None h = omega arith
reaching_none s (Some x) h = by (nat_lt s.first x.end) refl h
  where
    by : (t : Bool) → nat_lt s.first x.end ≡ t → (if t then Some x else None) ≡ None → x.end ≤ s.first
    by true t h = absurd cc
    by false t h = grind (arith, nat_tests)

module _ (g : Span) (other : Option Span) (low : ℕ) (fs : List Span) (h : SoFar g other low fs) (s : Span) (up : low ≤ s.first) where
  -- ---- an earlier one overlaps

  record Found (e : Span) : Type 0 where
    long : s.first < s.end
    past : s.first < e.end
    within : In e fs
    unlike : may_share e s ≡ false

  some_rival : (e : Span) (m : Bool) → may_share g s ≡ m → (if m then other else Some g) ≡ Some e → In e fs × (may_share e s ≡ false)
  some_rival e true m is =
      let o = h.other_in e is in
      (o.0, none (may_share e s) refl o.1)
    where
      none : (t : Bool) → may_share e s ≡ t → may_share g e ≡ false → t ≡ false
      none true k y = let x = share_on g s e m (share_back e s k) in cc
      none false k y = refl
  some_rival e false m is = let same : g ≡ e = cc in subst (λ (x : Span). In x fs × (may_share x s ≡ false)) same (h.has, m)

  found : (e : Span) → clash (Some g) other s ≡ Some e → Found e
  found e is = by (nat_lt s.first s.end) refl is
    where
      by : (t : Bool) → nat_lt s.first s.end ≡ t → (if t then reaching s (rival (Some g) other s) else None) ≡ Some e → Found e
      by true t k =
          let r = reaching_some s e (rival (Some g) other s) k in
          let in_it = some_rival e (may_share g s) refl r.0 in
          record { long = grind (arith, nat_tests); past = r.1; within = in_it.0; unlike = in_it.1 }
      by false t k = absurd cc

  overlaps : (e : Span) → Found e → Overlap e s
  overlaps e f =
      let low_e = h.rises e f.within in
      record { one = omega (arith, low_e, up, f.past); other = f.long; here = omega (arith, low_e, up, f.long); there = f.past; apart = f.unlike }

  -- ---- none does

  free_of : clash (Some g) other s ≡ None → (x : Span) → In x fs → Overlap x s → ⊥
  free_of is x i o = by (nat_lt s.first s.end) refl is
    where
      unlike : may_share g s ≡ true → (t : Bool) → may_share g x ≡ t → may_share x s ≡ false → t ≡ false
      unlike m true q z = let y = share_on x g s (share_back g x q) m in cc
      unlike m false q z = refl

      rivals : (m : Bool) → may_share g s ≡ m → reaching s (if m then other else Some g) ≡ None → ⊥
      rivals false m k = let past = reaching_none s (Some g) k in let e = h.ends x i in let t = o.there in omega (arith, past, e, t)
      rivals true m k =
          let past = reaching_none s other k in
          let own : may_share g g ≡ true = share_on g s g m (share_back g s m) in
          let e = h.others x own i (unlike m (may_share g x) refl o.apart) in
          let t = o.there in
          omega (arith, past, e, t)

      by : (t : Bool) → nat_lt s.first s.end ≡ t → (if t then reaching s (rival (Some g) other s) else None) ≡ None → ⊥
      by true t k = rivals (may_share g s) refl k
      by false t k = let z = o.other in grind (arith, nat_tests)

  -- one more, where the furthest stays or is the new one
  module _ (free : (x : Span) → In x fs → Overlap x s → ⊥) where
    still : AllPairs Apart (s ∷ fs)
    still = AllPairs-cons Apart s fs (all_of (Apart s) fs (λ x i o. free x i (overlap_back s x o))) h.apart

    rising : (x : Span) → In x (s ∷ fs) → x.first ≤ s.first
    rising x (inl e) = let f : x.first ≡ s.first = ap (λ (y : Span). y.first) e in omega (arith, f)
    rising x (inr i) = let r = h.rises x i in omega (arith, r, up)

    within_end : (top : ℕ) → g.end ≤ top → s.end ≤ top → (x : Span) → In x (s ∷ fs) → x.end ≤ top
    within_end top p q x (inl e) = let f : x.end ≡ s.end = ap (λ (y : Span). y.end) e in omega (arith, f, q)
    within_end top p q x (inr i) = let r = h.ends x i in omega (arith, r, p)

    -- it may share with the furthest: then the others are the same
    like_new : may_share g s ≡ true → g.end ≤ s.end → SoFar s other s.first (s ∷ fs)
    like_new m le = record {
      apart = still;
      rises = rising;
      ends = within_end s.end le (omega arith);
      others = λ x own i unlike. elim i [
        | inl e ↦ absurd (let f : may_share s x ≡ may_share s s = ap (may_share s) e in cc)
        | inr j ↦ h.others x (share_on g s g m (share_back g s m)) j (like_false g s x m unlike)
      ];
      has = inl refl;
      other_in = λ o is. let k = h.other_in o is in (inr k.0, like_false s g o (share_back g s m) k.1);
    }
      where
        like_false : (a b c : Span) → may_share a b ≡ true → may_share b c ≡ false → may_share a c ≡ false
        like_false a b c p q = by (may_share a c) refl
          where
            by : (t : Bool) → may_share a c ≡ t → t ≡ false
            by true k = let y = share_on b a c (share_back a b p) k in cc
            by false k = refl

    like_old : may_share g s ≡ true → s.end ≤ g.end → SoFar g other s.first (s ∷ fs)
    like_old m le = record {
      apart = still;
      rises = rising;
      ends = within_end g.end (omega arith) le;
      others = λ x own i unlike. elim i [
        | inl e ↦ absurd (let f : may_share g x ≡ may_share g s = ap (may_share g) e in cc)
        | inr j ↦ h.others x own j unlike
      ];
      has = inr h.has;
      other_in = λ o is. let k = h.other_in o is in (inr k.0, k.1);
    }

    -- it may not
    unlike_new : may_share g s ≡ false → g.end ≤ s.end → SoFar s (Some g) s.first (s ∷ fs)
    unlike_new m le = record {
      apart = still;
      rises = rising;
      ends = within_end s.end le (omega arith);
      others = λ x own i unlike. elim i [
        | inl e ↦ absurd (let f : may_share s x ≡ may_share s s = ap (may_share s) e in cc)
        | inr j ↦ h.ends x j
      ];
      has = inl refl;
      other_in = λ o is. let same : g ≡ o = cc in subst (λ (y : Span). In y (s ∷ fs) × (may_share s y ≡ false)) same (inr h.has, apart_back g s m);
    }

    unlike_old : may_share g s ≡ false → s.end ≤ g.end → (o : Option Span) → other ≡ o → SoFar g (Some (further o s)) s.first (s ∷ fs)
    unlike_old m le None is = record {
      apart = still;
      rises = rising;
      ends = within_end g.end (omega arith) le;
      others = λ x own i unlike. elim i [
        | inl e ↦ let f : x.end ≡ s.end = ap (λ (y : Span). y.end) e in omega (arith, f)
        | inr j ↦ let k = h.others x own j unlike in let z : end_of other ≡ 0 = ap end_of is in omega (arith, k, z)
      ];
      has = inr h.has;
      other_in = λ o e. let same : s ≡ o = cc in subst (λ (y : Span). In y (s ∷ fs) × (may_share g y ≡ false)) same (inl refl, m);
    }
    unlike_old m le (Some p) is = record {
      apart = still;
      rises = rising;
      ends = within_end g.end (omega arith) le;
      others = λ x own i unlike. elim i [
        | inl e ↦ let f : x.end ≡ s.end = ap (λ (y : Span). y.end) e in let k = further_ends p in omega (arith, f, k.1)
        | inr j ↦ let k = h.others x own j unlike in let z : end_of other ≡ p.end = ap end_of is in let e = further_ends p in omega (arith, k, z, e.0)
      ];
      has = inr h.has;
      other_in = λ o e. let same : further (Some p) s ≡ o = cc in subst (λ (y : Span). In y (s ∷ fs) × (may_share g y ≡ false)) same (one_of p (nat_lt p.end s.end) refl (h.other_in p is));
    }
      where
        further_ends : (p : Span) → (p.end ≤ (further (Some p) s).end) × (s.end ≤ (further (Some p) s).end)
        further_ends p = by (nat_lt p.end s.end) refl
          where
            by : (t : Bool) → nat_lt p.end s.end ≡ t → (p.end ≤ (if t then s else p).end) × (s.end ≤ (if t then s else p).end)
            by true t = let lt : p.end < s.end = grind (arith, nat_tests) in (omega (arith, lt), omega arith)
            by false t = let le : s.end ≤ p.end = grind (arith, nat_tests) in (omega arith, le)

        one_of : (p : Span) (t : Bool) → nat_lt p.end s.end ≡ t → In p fs × (may_share g p ≡ false) → In (if t then s else p) (s ∷ fs) × (may_share g (if t then s else p) ≡ false)
        one_of p true t k = (inl refl, m)
        one_of p false t k = (inr k.0, k.1)

    next : SoFar (further (Some g) s) (other_with (Some g) other s) s.first (s ∷ fs)
    next = by (may_share g s) refl (nat_lt g.end s.end) refl
      where
        by : (m : Bool) → may_share g s ≡ m → (t : Bool) → nat_lt g.end s.end ≡ t → SoFar (if t then s else g) (if m then other else (if t then Some g else Some (further other s))) s.first (s ∷ fs)
        by true m true t = like_new m (grind (arith, nat_tests))
        by true m false t = like_old m (grind (arith, nat_tests))
        by false m true t = unlike_new m (grind (arith, nat_tests))
        by false m false t = unlike_old m (grind (arith, nat_tests)) other refl

-- ---- the sweep

module _ (all : List Span) where
  two_of : (e s : Span) (fs ss : List Span) → In e fs → IsPermutation all (fs ++ s ∷ ss) → AreTwoOf all e s
  two_of e s fs ss i moved =
      let h = taken_out e fs i in
      let front : IsPermutation (fs ++ s ∷ ss) (e ∷ (h.0 ++ s ∷ ss)) = IsPermutation-append_left (s ∷ ss) fs (e ∷ h.0) h.1 in
      let middle : IsPermutation (e ∷ (h.0 ++ s ∷ ss)) (e ∷ s ∷ (h.0 ++ ss)) = IsPermutation-cons e _ _ (IsPermutation-middle h.0 s ss) in
      (h.0 ++ ss, IsPermutation-trans _ _ _ moved (IsPermutation-trans _ _ _ front middle))

  first_from : (g : Span) (other : Option Span) (low : ℕ) (fs ss : List Span) → SoFar g other low fs → Rises low ss → IsPermutation all (fs ++ ss) → IsFirstOverlap all (swept (Some g) other ss)
  first_from g other low fs [] h r moved =
      pairs_permutation Apart (λ x y k o. k (overlap_back y x o)) fs all (IsPermutation-sym all fs (subst (IsPermutation all) (append-nil fs) moved)) h.apart
  first_from g other low fs (s ∷ ss) h r moved =
      by (clash (Some g) other s) refl (λ is. first_from (further (Some g) s) (other_with (Some g) other s) s.first (s ∷ fs) ss
      (next g other low fs h s r.0 (free_of g other low fs h s r.0 is)) r.1 (IsPermutation-trans _ _ _ moved (IsPermutation-middle fs s ss)))
    where
      by : (c : Option Span) → clash (Some g) other s ≡ c → (clash (Some g) other s ≡ None → IsFirstOverlap all (swept (Some (further (Some g) s)) (other_with (Some g) other s) ss)) → IsFirstOverlap all (found_or c s (swept (Some (further (Some g) s)) (other_with (Some g) other s) ss))
      by None is rest = rest is
      by (Some e) is rest =
          let f = found g other low fs h s r.0 e is in
          let low_e = h.rises e f.within in
          let begins : begin_of e s ≤ s.first = omega (arith, low_e, r.0) in
          let quiet : AllPairs (NotBelow (begin_of e s)) fs = λ i j d lt within o. absurd (h.apart i j d lt within o) in
          let whole = in_front (begin_of e s) s.first (s ∷ ss) fs begins (omega arith, r.1) quiet in
          let back : IsPermutation ((s ∷ ss) ++ fs) all = IsPermutation-sym _ _ (IsPermutation-trans _ _ _ moved (IsPermutation-append_comm fs (s ∷ ss))) in (
            two_of e s fs ss f.within moved,
            overlaps g other low fs h s r.0 e f,
            omega (arith, low_e, r.0),
            pairs_permutation (NotBelow (begin_of e s)) (not_below_back (begin_of e s)) ((s ∷ ss) ++ fs) all back whole,
          )

  -- a sweep over the same segments in rising order
  pub sweep_finds : (ss : List Span) → Rises 0 ss → IsPermutation all ss → IsFirstOverlap all (swept None None ss)
  sweep_finds [] r moved = pairs_permutation Apart (λ x y k o. k (overlap_back y x o)) [] all (IsPermutation-sym all [] moved) (λ i j d lt within. absurd (omega (arith, within)))
  sweep_finds (s ∷ ss) r moved = by (nat_lt s.first s.end)
    where
      start : SoFar s None s.first (s ∷ [])
      start = record {
        apart = λ i j d lt within. absurd (omega (arith, within, lt));
        rises = λ x i. elim i [ inl e ↦ (let f : x.first ≡ s.first = ap (λ (y : Span). y.first) e in omega (arith, f)) | inr j ↦ absurd j ];
        ends = λ x i. elim i [ inl e ↦ (let f : x.end ≡ s.end = ap (λ (y : Span). y.end) e in omega (arith, f)) | inr j ↦ absurd j ];
        others = λ x own i unlike. elim i [ inl e ↦ absurd (let f : may_share s x ≡ may_share s s = ap (may_share s) e in cc) | inr j ↦ absurd j ];
        has = inl refl;
        other_in = λ o is. absurd cc;
      }

      by : (t : Bool) → IsFirstOverlap all (found_or (if t then None else None) s (swept (Some s) None ss))
      by true = first_from s None s.first (s ∷ []) ss start r.1 moved
      by false = first_from s None s.first (s ∷ []) ss start r.1 moved

-- sorted by their first addresses they rise
rises_from : (low : ℕ) (ss : List Span) → IsNonDecreasingBy (λ s. s.first) ss → ((s : Span) (more : List Span) → ss ≡ s ∷ more → low ≤ s.first) → Rises low ss
rises_from low [] up above = tt
rises_from low (s ∷ []) up above = (above s [] refl, tt)
rises_from low (s ∷ t ∷ ss) up above = (
  above s (t ∷ ss) refl,
  rises_from s.first (t ∷ ss) (λ a b d le lt. up (suc a) (suc b) d (omega (arith, le)) (omega (arith, lt)))
      (λ k more e. let first : t ≡ k = cc in subst (λ (x : Span). s.first ≤ x.first) first (up 0 1 s (omega arith) (omega arith))),
)

pub sorted_rise : (ss : List Span) → IsNonDecreasingBy (λ s. s.first) ss → Rises 0 ss
sorted_rise ss up = rises_from 0 ss up (λ s more e. omega arith)

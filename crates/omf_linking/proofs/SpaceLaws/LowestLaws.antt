-- The first overlap, by the addresses at which bytes begin: before an address at which none begins there is the same or more.
use Rattle.std.proofs.Common.{◌≡◌, ◌⊎◌, inl, inr, ℕ, zero, suc, ◌+◌, ◌-◌, ◌<◌, ◌≤◌, List, [], ◌∷◌, ◌++◌, length, take, get_or, refl, sym, ap, subst, ◌∙◌, arith, min, Bool, false, cond, Option, Some, None}
use Rattle.std.proofs.lemmas.Bool.Decides.{leb_tells}
use Rattle.std.specs.Prelude.{IfSome, IsSome, IsNone, is_some, filter_map}
use Rattle.std.specs.List.{cons_option}
use Rattle.std.proofs.lemmas.Grind.{take_at_read}
use Rattle.std.proofs.lemmas.List.{map-append, take_all}
use Rattle.omf_linking.specs.declared.space.stretch.Stretch.{Stretch}
use Rattle.omf_linking.specs.Space.Memory.{Piece, piece, pieces, Share, share_of, shares, overlap, IsFirstOverlap}
use Rattle.omf_linking.specs.Inner.Sweeping.{interval}
use Rattle.omf_linking.specs.Inner.Searching.{IsLowest, lowest_with}
use Rattle.omf_linking.proofs.SpaceLaws.SweepLaws.{NoClash, within, before, after, inside}
use Rattle.omf_linking.proofs.SpaceLaws.ShareLaws.{owns, IsAt, at, no_overlap, some_overlap}

not_both : {A : Type 0} (o : Option A) → IsSome o → IsNone o → ⊥
not_both None h k = absurd cc
not_both (Some x) h k = absurd cc

pub gone : {A : Type 0} (o : Option A) → is_some o ≡ false → o ≡ None
gone None e = refl
gone (Some x) e = absurd cc

pub is_none : {A : Type 0} (o : Option A) → is_some o ≡ false → IsNone o
is_none None e = refl
is_none (Some x) e = absurd cc

-- ---- the lowest address, of those at which bytes begin

abbrev OneMore : (ℕ → Type 0) → ℕ → (ℕ → Type 0) → Type 0
OneMore begun x more = (a : ℕ) → more a → begun a ⊎ (a ≡ x)

module _ (at : ℕ → List Share) (begun more : ℕ → Type 0) (x : ℕ) (one : OneMore begun x more) where
  pub passed : (o : Option ℕ) → IsNone (overlap (at x)) → IsLowest at begun o → IsLowest at more o
  passed None none h = λ a m. elim (one a m) [ inl b ↦ h a b | inr e ↦ subst (λ (n : ℕ). IsNone (overlap (at n))) (sym e) none ]
  passed (Some y) none h = (h.0, λ a lt m. elim (one a m) [ inl b ↦ h.1 a lt b | inr e ↦ subst (λ (n : ℕ). IsNone (overlap (at n))) (sym e) none ])

  lower_some : (y : ℕ) → IsSome (overlap (at x)) → IsSome (overlap (at y)) → IsSome (overlap (at (min y x)))
  lower_some y h k = elim (leb_tells y x) [
    | inl t ↦ let e : y ≡ min y x = omega (arith, t.1) in subst (λ (n : ℕ). IsSome (overlap (at n))) e k
    | inr t ↦ let e : x ≡ min y x = omega (arith, t.1) in subst (λ (n : ℕ). IsSome (overlap (at n))) e h
  ]

  lowered : (o : Option ℕ) → IsSome (overlap (at x)) → IsLowest at begun o → IsLowest at more (Some (lowest_with o x))
  lowered None some h = (some, λ a lt m. elim (one a m) [ inl b ↦ h a b | inr e ↦ absurd (omega (arith, e, lt)) ])
  lowered (Some y) some h = (lower_some y some h.0, λ a lt m. elim (one a m) [ inl b ↦ h.1 a (omega (arith, lt)) b | inr e ↦ absurd (omega (arith, e, lt)) ])

  pub taken : (o : Option ℕ) (n : ℕ) → n ≡ lowest_with o x → IsSome (overlap (at x)) → IsLowest at begun o → IsLowest at more (Some n)
  taken o n e some h = subst (λ (k : ℕ). IsLowest at more (Some k)) (sym e) (lowered o some h)

-- ---- where nothing begins there is no more than at the address before

abbrev size : Option Share → ℕ
size None = 0
size (Some s) = 1

abbrev once : Bool → ℕ
once b = cond b 0 1

abbrev own_size : Option Share → ℕ
own_size None = 0
own_size (Some s) = once s.common

sized : (o : Option Share) (ss : List Share) → length (cons_option o ss) ≡ size o + length ss
sized None ss = omega arith
sized (Some s) ss = omega arith

own_sized : (o : Option Share) (ss : List Share) → owns (cons_option o ss) ≡ own_size o + owns ss
own_sized None ss = omega arith
own_sized (Some s) ss = refl

-- a byte begins at an address, there is none, or there is one at the address before
abbrev pub Follows : {A : Type 0} → (ℕ → A → Option Share) → (ℕ → A → Type 0) → ℕ → A → Type 0
Follows share begins a x = begins a x ⊎ (IsNone (share a x) ⊎ ((1 ≤ a) × IsSome (share (a - 1) x)))

abbrev pub AnyBegins : {A : Type 0} → (ℕ → A → Type 0) → ℕ → List A → Type 0
AnyBegins begins a [] = ⊥
AnyBegins begins a (x ∷ xs) = begins a x ⊎ AnyBegins begins a xs

module _ {A : Type 0} (share : ℕ → A → Option Share) (begins : ℕ → A → Type 0) (flag : A → Bool) (flagged : (a : ℕ) (x : A) → IfSome (share a x) (λ s. s.common ≡ flag x))
    (follows : (a : ℕ) (x : A) → Follows share begins a x) where
  abbrev here : List A → ℕ → List Share
  here xs a = filter_map (share a) xs

  -- no more at an address than at another
  abbrev Fewer : ℕ → ℕ → ℕ → ℕ → Type 0
  Fewer p c q d = (p ≤ q) × (c ≤ d)

  one_fewer : (flagged_as : Bool) (o p : Option Share) → IfSome o (λ s. s.common ≡ flagged_as) → IfSome p (λ s. s.common ≡ flagged_as) → IsSome p → Fewer (own_size o) (size o) (own_size p) (size p)
  one_fewer b o None h k some = absurd cc
  one_fewer b None (Some t) h k some = (omega arith, omega arith)
  one_fewer b (Some s) (Some t) h k some = let e : once s.common ≡ once t.common = ap once (h ∙ sym k) in (omega (arith, e), omega arith)

  none_fewer : (o p : Option Share) → IsNone o → Fewer (own_size o) (size o) (own_size p) (size p)
  none_fewer None p h = (omega arith, omega arith)
  none_fewer (Some s) p h = absurd cc

  -- the numbers at an address and at the one before, 0 before the first
  abbrev NoMore : List A → ℕ → Type 0
  NoMore xs a = Fewer (owns (here xs a)) (length (here xs a)) (owns (here xs (a - 1))) (length (here xs (a - 1))) × (a ≡ 0 → length (here xs a) ≡ 0)

  module _ (x : A) (xs : List A) (a : ℕ) where
    more_none : IsNone (share a x) → NoMore xs a → NoMore (x ∷ xs) a
    more_none none h =
        let f = none_fewer (share a x) (share (a - 1) x) none in
        let z = none_fewer (share a x) None none in (
          (
            omega (arith, own_sized (share a x) (here xs a), own_sized (share (a - 1) x) (here xs (a - 1)), f.0, h.0.0),
            omega (arith, sized (share a x) (here xs a), sized (share (a - 1) x) (here xs (a - 1)), f.1, h.0.1),
          ),
          λ e. let n = h.1 e in omega (arith, sized (share a x) (here xs a), z.1, n),
        )

    more_some : 1 ≤ a → IsSome (share (a - 1) x) → NoMore xs a → NoMore (x ∷ xs) a
    more_some low some h =
        let f = one_fewer (flag x) (share a x) (share (a - 1) x) (flagged a x) (flagged (a - 1) x) some in (
          (
            omega (arith, own_sized (share a x) (here xs a), own_sized (share (a - 1) x) (here xs (a - 1)), f.0, h.0.0),
            omega (arith, sized (share a x) (here xs a), sized (share (a - 1) x) (here xs (a - 1)), f.1, h.0.1),
          ),
          λ e. absurd (omega (arith, e, low)),
        )

  fewer : (xs : List A) (a : ℕ) → AnyBegins begins a xs ⊎ NoMore xs a
  fewer [] a = inr ((omega arith, omega arith), λ e. refl)
  fewer (x ∷ xs) a = elim (fewer xs a) [
    | inl b ↦ inl (inr b)
    | inr n ↦ elim (follows a x) [
      | inl b ↦ inl (inl b)
      | inr f ↦ elim f [
        | inl none ↦ inr (more_none x xs a none n)
        | inr some ↦ inr (more_some x xs a some.0 some.1 n)
      ]
    ]
  ]

  no_clash : (ss : List Share) → IsNone (overlap ss) → NoClash (owns ss) (length ss)
  no_clash ss none = λ one. elim (leb_tells 2 (length ss)) [
    | inl t ↦ absurd (not_both (overlap ss) (some_overlap ss (one, t.1)) none)
    | inr t ↦ t.1
  ]

  quiet : (xs : List A) (top : ℕ) → ((a : ℕ) → a < top → AnyBegins begins a xs → IsNone (overlap (here xs a))) → (a : ℕ) → a < top → NoClash (owns (here xs a)) (length (here xs a))
  quiet xs top h zero lt = elim (fewer xs 0) [
    | inl b ↦ no_clash (here xs 0) (h 0 lt b)
    | inr n ↦ λ one. let z = n.1 refl in omega (arith, z)
  ]
  quiet xs top h (suc a) lt = elim (fewer xs (suc a)) [
    | inl b ↦ no_clash (here xs (suc a)) (h (suc a) lt b)
    | inr n ↦ let less : suc a - 1 ≡ a = omega arith in
        let own : owns (here xs (suc a)) ≤ owns (here xs a) = subst (λ (k : ℕ). owns (here xs (suc a)) ≤ owns (here xs k)) less n.0.0 in
        let all : length (here xs (suc a)) ≤ length (here xs a) = subst (λ (k : ℕ). length (here xs (suc a)) ≤ length (here xs k)) less n.0.1 in
        λ one. let q = quiet xs top h a (omega (arith, lt)) (omega (arith, one, own)) in omega (arith, q, all)
  ]

  -- the lowest overlap of those at which bytes begin is the first of all
  pub lowest_is_first : (xs : List A) (o : Option ℕ) → IsLowest (here xs) (λ a. AnyBegins begins a xs) o → IsFirstOverlap (here xs) o
  lowest_is_first xs None h = λ a. no_overlap (here xs a) (quiet xs (suc a) (λ b lt begun. h b begun) a (omega arith))
  lowest_is_first xs (Some x) h = (h.0, λ a lt. no_overlap (here xs a) (quiet xs x (λ b low begun. h.1 b low begun) a lt))

-- one more at the end
pub begins-more : {A : Type 0} (begins : ℕ → A → Type 0) (a : ℕ) (xs : List A) (x : A) → AnyBegins begins a (xs ++ x ∷ []) → AnyBegins begins a xs ⊎ begins a x
begins-more begins a [] x h = elim h [ inl b ↦ inr b | inr none ↦ absurd none ]
begins-more begins a (y ∷ xs) x h = elim h [
  | inl b ↦ inl (inl b)
  | inr m ↦ elim (begins-more begins a xs x m) [ inl b ↦ inl (inr b) | inr b ↦ inr b ]
]

-- ---- pieces: bytes begin at their first addresses

abbrev pub starts : ℕ → Piece → Type 0
starts a p = a ≡ p.address

piece_flag : (a : ℕ) (p : Piece) → IfSome (share_of a p) (λ s. s.common ≡ p.common)
piece_flag a p = by (share_of a p) (at a p)
  where
    by : (o : Option Share) → IsAt a p o → IfSome o (λ s. s.common ≡ p.common)
    by None h = tt
    by (Some s) h = h.1

piece_follows : (a : ℕ) (p : Piece) → Follows share_of starts a p
piece_follows a p = by (share_of a p) refl (at a p)
  where
    -- a byte that is not the first follows another
    earlier : p.address < a → within a (interval p) ≡ 1 → (o : Option Share) → share_of (a - 1) p ≡ o → IsAt (a - 1) p o → IsSome (share_of (a - 1) p)
    earlier up one (Some s) e h = subst IsSome (sym e) refl
    earlier up one None e h = elim (leb_tells (suc a) (interval p).end) [
      | inl t ↦ absurd (omega (arith, h, inside (a - 1) (interval p) (omega (arith, up)) (omega (arith, t.1, up))))
      | inr t ↦ absurd (omega (arith, one, after a (interval p) (omega (arith, t.1))))
    ]

    by : (o : Option Share) → share_of a p ≡ o → IsAt a p o → Follows share_of starts a p
    by None e h = inr (inl (subst IsNone (sym e) refl))
    by (Some s) e h = elim (leb_tells a p.address) [
      | inl t ↦ elim (leb_tells p.address a) [
        | inl u ↦ inl (omega (arith, t.1, u.1))
        | inr u ↦ absurd (omega (arith, h.0, before a (interval p) u.1))
      ]
      | inr t ↦ inr (inr (omega (arith, t.1), earlier t.1 h.0 (share_of (a - 1) p) refl (at (a - 1) p)))
    ]

-- the lowest of the first addresses of some stretches at which all overlap
abbrev pub IsLowestOf : List Stretch → List Stretch → Option ℕ → Type 0
IsLowestOf ss some o = IsLowest (shares (pieces ss)) (λ a. AnyBegins starts a (pieces some)) o

pub no_stretch : (ss : List Stretch) → IsLowestOf ss [] None
no_stretch ss a h = absurd h

pub first_of_all : (ss : List Stretch) (o : Option ℕ) → IsLowestOf ss ss o → IsFirstOverlap (shares (pieces ss)) o
first_of_all ss o h = lowest_is_first share_of starts (λ p. p.common) piece_flag piece_follows (pieces ss) o h

module _ (ss : List Stretch) (i : ℕ) (d : Stretch) (inside : i < length ss) where
  one_more : OneMore (λ a. AnyBegins starts a (pieces (take i ss))) (get_or ss i d).address (λ a. AnyBegins starts a (pieces (take (i + 1) ss)))
  one_more a h =
      let s = get_or ss i d in
      let more : pieces (take (i + 1) ss) ≡ pieces (take i ss) ++ piece s ∷ [] = ap pieces (take_at_read ss i d inside).1 ∙ map-append piece (take i ss) (s ∷ []) in
      begins-more starts a (pieces (take i ss)) (piece s) (subst (λ (ps : List Piece). AnyBegins starts a ps) more h)

  pub next_passed : (o : Option ℕ) → IsNone (overlap (shares (pieces ss) (get_or ss i d).address)) → IsLowestOf ss (take i ss) o → IsLowestOf ss (take (i + 1) ss) o
  next_passed o none h = passed (shares (pieces ss)) (λ a. AnyBegins starts a (pieces (take i ss))) (λ a. AnyBegins starts a (pieces (take (i + 1) ss))) (get_or ss i d).address one_more o none h

  pub next_taken : (o : Option ℕ) (n : ℕ) → n ≡ lowest_with o (get_or ss i d).address → IsSome (overlap (shares (pieces ss) (get_or ss i d).address)) → IsLowestOf ss (take i ss) o → IsLowestOf ss (take (i + 1) ss) (Some n)
  next_taken o n e some h = taken (shares (pieces ss)) (λ a. AnyBegins starts a (pieces (take i ss))) (λ a. AnyBegins starts a (pieces (take (i + 1) ss))) (get_or ss i d).address one_more o n e some h

pub all_seen : (ss : List Stretch) (i : ℕ) (o : Option ℕ) → length ss ≤ i → IsLowestOf ss (take i ss) o → IsLowestOf ss ss o
all_seen ss i o past h = subst (λ (xs : List Stretch). IsLowestOf ss xs o) (take_all i ss past) h

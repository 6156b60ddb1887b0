-- The place computed for an external is its place.
use Rattle.std.proofs.Common.{◌≡◌, ℕ, ◌<◌, ◌≤◌, false, List, [], ◌∷◌, ◌++◌, length, refl, sym, ap, ap₂, ◌∙◌, subst, inl, inr, arith, length-append}
use Rattle.std.specs.Prelude.{◌≢◌, ◌⊎◌, ◌^◌, filter_map, find, option_map, Some, None, Result, Ok, Err, bytes_eq, ◌==◌, ◌&&◌, cond, Bool}
use Rattle.std.specs.Bool.{Decides}
use Rattle.std.specs.List.{cons_option}
use Rattle.std.specs.Option.{option_or}
use Rattle.std.proofs.lemmas.Bool.{cond-true, cond-false, false_from_ne_true, lt-ltb, le-ltb, cases_Bool, cases_lt}
use Rattle.std.proofs.lemmas.Bool.Decides.{Decides-and, Decides-eqb, not_from_Decides}
use Rattle.std.proofs.lemmas.List.Elements.{All-nil, All-cons, All-head, All-tail, filter_map-append}
use Rattle.std.proofs.lemmas.List.Folds.{find-append}
use Rattle.std.proofs.lemmas.Slice.Eq.{bytes_eq-Decides}
use Rattle.omf_placement.specs.declared.several.fault.DeriveFault.{DeriveFault}
use Rattle.omf_placement.specs.declared.several.fault.DeriveFault.TheVariants as fault
use Rattle.omf_placement.specs.declared.several.given.Given.{Given}
use Rattle.omf_placement.specs.Derivation.{IsFor, IsNotGiven, IsFirstGiven, IsUnnamed, IsOnly, AreSeveral, Takes, Fails}
use Rattle.omf_placement.specs.Derive.{PlacedPublic, place_in}
use Rattle.omf_placement.specs.Inner.Derived.{given_place, of_name, one_public, given_or, external_place}
use Rattle.omf_placement.specs.declared.frame.Placed.{Placed}

-- The entries for an external.
module _ (j i : ℕ) where
  abbrev is-for : Given → Bool
  is-for g = (g.module == j) && (g.external == i)

  for-decides : (g : Given) → Decides (is-for g) (IsFor j i g)
  for-decides g = Decides-and (g.module == j) (g.external == i) (Decides-eqb g.module j) (Decides-eqb g.external i)

  not-for : (g : Given) → (IsFor j i g → ⊥) → is-for g ≡ false
  not-for g n = false_from_ne_true (is-for g) (λ e. n ((for-decides g).0 e))

  find-none : (given : List Given) → IsNotGiven j i given → find is-for given ≡ None
  find-none [] h = refl
  find-none (g ∷ given) h = cond-false (is-for g) (Some g) (find is-for given) (not-for g (All-head (λ x. IsFor j i x → ⊥) g given h)) ∙ find-none given (All-tail (λ x. IsFor j i x → ⊥) g given h)

  find-first : (given : List Given) (g : Given) → IsFirstGiven j i given g → find is-for given ≡ Some g
  find-first given g h =
      ap (find is-for) h.all ∙ find-append is-for h.before (g ∷ h.after)
      ∙ ap (λ o. option_or o (find is-for (g ∷ h.after))) (find-none h.before h.earlier)
      ∙ cond-true (is-for g) (Some g) (find is-for h.after) ((for-decides g).1 h.applies)

  given-none : (given : List Given) → IsNotGiven j i given → given_place given j i ≡ None
  given-none given h = ap (option_map place_in) (find-none given h)

  given-first : (given : List Given) (g : Given) → IsFirstGiven j i given g → given_place given j i ≡ Some (place_in g)
  given-first given g h = ap (option_map place_in) (find-first given g h)

  given-more : (g : Given) (given : List Given) (x : Given) → (IsFor j i g → ⊥) → IsFirstGiven j i given x → IsFirstGiven j i (g ∷ given) x
  given-more g given x n h = record {
    before = g ∷ h.before;
    after = h.after;
    all = ap (λ xs. g ∷ xs) h.all;
    applies = h.applies;
    earlier = All-cons (λ y. IsFor j i y → ⊥) g h.before n h.earlier;
  }

  given-cases : (given : List Given) → ((g : Given) × IsFirstGiven j i given g) ⊎ IsNotGiven j i given
  given-cases [] = inr (All-nil (λ x. IsFor j i x → ⊥))
  given-cases (g ∷ given) = elim (cases_Bool (is-for g)) [
    | inl e ↦ inl (g, record { before = []; after = given; all = refl; applies = (for-decides g).0 e; earlier = All-nil (λ x. IsFor j i x → ⊥) })
    | inr e ↦ elim (given-cases given) [
      | inl s ↦ inl (s.0, given-more g given s.0 (not_from_Decides (is-for g) (for-decides g) e) s.1)
      | inr n ↦ inr (All-cons (λ x. IsFor j i x → ⊥) g given (not_from_Decides (is-for g) (for-decides g) e) n)
    ]
  ]

-- The publics of a name.
module _ (name : List ℕ) where
  abbrev named : List PlacedPublic → List Placed
  named among = filter_map (of_name name) among

  named-more : (p : PlacedPublic) (among : List PlacedPublic) → p.name ≡ name → named (p ∷ among) ≡ p.place ∷ named among
  named-more p among e = ap (λ b. cons_option (cond b (Some p.place) None) (named among)) ((bytes_eq-Decides name p.name).1 (sym e))

  named-other : (p : PlacedPublic) (among : List PlacedPublic) → p.name ≢ name → named (p ∷ among) ≡ named among
  named-other p among n = ap (λ b. cons_option (cond b (Some p.place) None) (named among)) (false_from_ne_true (bytes_eq name p.name) (λ e. n (sym ((bytes_eq-Decides name p.name).0 e))))

  named-none : (among : List PlacedPublic) → IsUnnamed name among → named among ≡ []
  named-none [] h = refl
  named-none (p ∷ among) h = named-other p among (All-head (λ q. q.name ≢ name) p among h) ∙ named-none among (All-tail (λ q. q.name ≢ name) p among h)

  named-only : (among : List PlacedPublic) (p : PlacedPublic) → IsOnly name among p → named among ≡ p.place ∷ []
  named-only among p h =
      ap named h.all ∙ filter_map-append (of_name name) h.before (p ∷ h.after) ∙ ap (λ xs. xs ++ named (p ∷ h.after)) (named-none h.before h.none_before)
      ∙ named-more p h.after h.named ∙ ap (λ xs. p.place ∷ xs) (named-none h.after h.none_after)

  named-several : (among : List PlacedPublic) → AreSeveral name among → 2 ≤ length (named among)
  named-several among h =
      let a = ap length (ap named h.all ∙ filter_map-append (of_name name) h.before (h.first ∷ (h.between ++ h.second ∷ h.after))) in
      let b = ap length (named-more h.first (h.between ++ h.second ∷ h.after) h.first_named) in
      let c = ap length (filter_map-append (of_name name) h.between (h.second ∷ h.after)) in
      let d = ap length (named-more h.second h.after h.second_named) in
      omega (arith, length-append (named h.before) (named (h.first ∷ (h.between ++ h.second ∷ h.after))), length-append (named h.between) (named (h.second ∷ h.after)))

  one-several : (j i : ℕ) (ps : List Placed) → 2 ≤ length ps → one_public j i ps ≡ Err (fault.Twice j i)
  one-several j i [] h = absurd (omega arith)
  one-several j i (p ∷ []) h = absurd (omega arith)
  one-several j i (p ∷ q ∷ ps) h = refl

  abbrev Cases : List PlacedPublic → Type 0
  Cases among = IsUnnamed name among ⊎ (((p : PlacedPublic) × IsOnly name among p) ⊎ AreSeveral name among)

  cases-named : (p : PlacedPublic) (among : List PlacedPublic) → p.name ≡ name → Cases among → Cases (p ∷ among)
  cases-named p among e (inl n) = inr (inl (p, record { before = []; after = among; all = refl; named = e; none_before = All-nil (λ q. q.name ≢ name); none_after = n }))
  cases-named p among e (inr (inl (q, h))) = inr (inr (record { before = []; first = p; between = h.before; second = q; after = h.after; all = ap (λ xs. p ∷ xs) h.all; first_named = e; second_named = h.named }))
  cases-named p among e (inr (inr h)) = inr (inr (record {
    before = [];
    first = p;
    between = h.before;
    second = h.first;
    after = h.between ++ h.second ∷ h.after;
    all = ap (λ xs. p ∷ xs) h.all;
    first_named = e;
    second_named = h.first_named;
  }))

  cases-other : (p : PlacedPublic) (among : List PlacedPublic) → p.name ≢ name → Cases among → Cases (p ∷ among)
  cases-other p among e (inl n) = inl (All-cons (λ q. q.name ≢ name) p among e n)
  cases-other p among e (inr (inl (q, h))) = inr (inl (
    q,
    record {
      before = p ∷ h.before;
      after = h.after;
      all = ap (λ xs. p ∷ xs) h.all;
      named = h.named;
      none_before = All-cons (λ x. x.name ≢ name) p h.before e h.none_before;
      none_after = h.none_after;
    },
  ))
  cases-other p among e (inr (inr h)) = inr (inr (record {
    before = p ∷ h.before;
    first = h.first;
    between = h.between;
    second = h.second;
    after = h.after;
    all = ap (λ xs. p ∷ xs) h.all;
    first_named = h.first_named;
    second_named = h.second_named;
  }))

  public-cases : (among : List PlacedPublic) → Cases among
  public-cases [] = inl (All-nil (λ q. q.name ≢ name))
  public-cases (p ∷ among) = elim (cases_Bool (bytes_eq name p.name)) [
    | inl e ↦ cases-named p among (sym ((bytes_eq-Decides name p.name).0 e)) (public-cases among)
    | inr e ↦ cases-other p among (λ n. not_from_Decides (bytes_eq name p.name) (bytes_eq-Decides name p.name) e (sym n)) (public-cases among)
  ]

-- The computed place or fault of an external.
module _ (among : List PlacedPublic) (given : List Given) (j i : ℕ) (name : List ℕ) where
  abbrev computed : Result Placed DeriveFault
  computed = external_place among given j i name

  is-given : (g : Given) → IsFirstGiven j i given g → computed ≡ Ok (place_in g)
  is-given g h = ap (λ o. given_or o (one_public j i (named name among))) (given-first j i given g h)

  not-given : (ps : List Placed) → IsNotGiven j i given → named name among ≡ ps → computed ≡ one_public j i ps
  not-given ps n e = ap (λ o. given_or o (one_public j i (named name among))) (given-none j i given n) ∙ ap (one_public j i) e

  is-low : (p : Placed) → p.address < 2 ^ 32 → one_public j i (p ∷ []) ≡ Ok p
  is-low p h = ap (λ b. cond b (Ok p) (Err (fault.TooHigh j i))) (lt-ltb p.address (2 ^ 32) h)

  is-high : (p : Placed) → 2 ^ 32 ≤ p.address → one_public j i (p ∷ []) ≡ Err (fault.TooHigh j i)
  is-high p h = ap (λ b. cond b (Ok p) (Err (fault.TooHigh j i))) (le-ltb p.address (2 ^ 32) h)

  pub take-to : (p : Placed) → Takes among given j i name p → computed ≡ Ok p
  take-to p (inl h) = is-given h.entry h.first ∙ ap (λ q. Ok q) h.place
  take-to p (inr (n, h)) = not-given (h.source.place ∷ []) n (named-only name among h.source h.only) ∙ is-low h.source.place h.low ∙ ap (λ q. Ok q) h.place

  pub fail-to : (f : DeriveFault) → Fails among given j i name f → computed ≡ Err f
  fail-to (fault.Undefined k e) (n, (a, b, h)) = not-given [] n (named-none name among h) ∙ ap₂ (λ x y. Err (fault.Undefined x y)) (sym a) (sym b)
  fail-to (fault.Twice k e) (n, (a, b, h)) = not-given (named name among) n refl ∙ one-several name j i (named name among) (named-several name among h) ∙ ap₂ (λ x y. Err (fault.Twice x y)) (sym a) (sym b)
  fail-to (fault.TooHigh k e) (n, (a, b, h)) = not-given (h.source.place ∷ []) n (named-only name among h.source h.only) ∙ is-high h.source.place h.high ∙ ap₂ (λ x y. Err (fault.TooHigh x y)) (sym a) (sym b)
  fail-to fault.Memory (n, h) = absurd h

  -- It has a place or a fault.
  pub taken-cases : ((p : Placed) × Takes among given j i name p) ⊎ ((f : DeriveFault) × Fails among given j i name f)
  taken-cases = elim (given-cases j i given) [
    | inl s ↦ inl (place_in s.0, inl (record { entry = s.0; first = s.1; place = refl }))
    | inr n ↦ elim (public-cases name among) [
      | inl u ↦ inr (fault.Undefined j i, (n, (refl, refl, u)))
      | inr (inl s) ↦ elim (cases_lt s.0.place.address (2 ^ 32)) [
        | inl l ↦ inl (s.0.place, inr (n, record { source = s.0; only = s.1; low = l; place = refl }))
        | inr h ↦ inr (fault.TooHigh j i, (n, (refl, refl, record { source = s.0; only = s.1; high = h })))
      ]
      | inr (inr h) ↦ inr (fault.Twice j i, (n, (refl, refl, h)))
    ]
  ]

  pub take-from : (p : Placed) → computed ≡ Ok p → Takes among given j i name p
  take-from p h = elim taken-cases [
    | inl s ↦ subst (Takes among given j i name) (cc (take-to s.0 s.1)) s.1
    | inr s ↦ absurd (cc (fail-to s.0 s.1))
  ]

  pub fail-from : (f : DeriveFault) → computed ≡ Err f → Fails among given j i name f
  fail-from f h = elim taken-cases [
    | inl s ↦ absurd (cc (take-to s.0 s.1))
    | inr s ↦ subst (Fails among given j i name) (cc (fail-to s.0 s.1)) s.1
  ]

-- In the computed placements each external has its place; the computed fault is the first.
use Rattle.std.proofs.Common.{◌≡◌, ℕ, List, [], ◌∷◌, ◌++◌, refl, sym, ap, ap₂, ◌∙◌, subst, inl, inr}
use Rattle.std.specs.Prelude.{◌⊎◌, All, Bool, map, flat_map, filter_map, Result, Ok, Err}
use Rattle.std.specs.List.{AllZip, cons_option, enumerate_from}
use Rattle.std.proofs.lemmas.List.Elements.{All-nil, All-cons, All-head, All-tail}
use Rattle.omf_placement.specs.declared.several.fault.DeriveFault.{DeriveFault}
use Rattle.omf_placement.specs.declared.several.given.Given.{Given}
use Rattle.omf_placement.specs.Derivation.{External, Takes, Fails, numbered, IsPlacement, AreDerived, AllTake, IsFirstIn, IsFirstAmong, IsFirstFault, DerivedIsTaken}
use Rattle.omf_placement.specs.Derive.{PlacedModule, PlacedPublic, seen_publics}
use Rattle.omf_placement.specs.Inner.Derived.{external_place, external_places, ok_of, err_of, with_externals, unless_fault, derived}
use Rattle.omf_placement.specs.declared.frame.Placed.{Placed}
use Rattle.omf_placement.specs.Placement.{Places}
use Rattle.omf_placement.proofs.TakenLaws.{take-to, fail-to, taken-cases}

-- The externals of a module.
module _ (among : Bool → List PlacedPublic) (given : List Given) (j : ℕ) where
  abbrev outcome : External → Result Placed DeriveFault
  outcome e = external_place (among e.1.1) given j e.0 e.1.0

  abbrev pub faults : List External → List DeriveFault
  faults es = filter_map err_of (map outcome es)

  abbrev pub found : List External → List Placed
  found es = filter_map ok_of (map outcome es)

  abbrev Taken : External → Placed → Type 0
  Taken e p = Takes (among e.1.1) given j e.0 e.1.0 p

  no-fault-more : (e : External) (es : List External) (p : Placed) → Taken e p → faults (e ∷ es) ≡ faults es
  no-fault-more e es p t = ap (λ r. cons_option (err_of r) (faults es)) (take-to (among e.1.1) given j e.0 e.1.0 p t)

  found-more : (e : External) (es : List External) (p : Placed) → Taken e p → found (e ∷ es) ≡ p ∷ found es
  found-more e es p t = ap (λ r. cons_option (ok_of r) (found es)) (take-to (among e.1.1) given j e.0 e.1.0 p t)

  fault-more : (e : External) (es : List External) (f : DeriveFault) → Fails (among e.1.1) given j e.0 e.1.0 f → faults (e ∷ es) ≡ f ∷ faults es
  fault-more e es f t = ap (λ r. cons_option (err_of r) (faults es)) (fail-to (among e.1.1) given j e.0 e.1.0 f t)

  -- each has a place
  pub none-fails : (es : List External) → AllTake among given j es → faults es ≡ []
  none-fails [] h = refl
  none-fails (e ∷ es) h =
      let t = All-head (λ x. (p : Placed) × Taken x p) e es h in
      no-fault-more e es t.0 t.1 ∙ none-fails es (All-tail (λ x. (p : Placed) × Taken x p) e es h)

  pub zip-found : (es : List External) (ps : List Placed) → AllZip Taken es ps → (faults es ≡ []) × (found es ≡ ps)
  zip-found [] [] h = (refl, refl)
  zip-found [] (p ∷ ps) h = absurd h
  zip-found (e ∷ es) [] h = absurd h
  zip-found (e ∷ es) (p ∷ ps) (t, h) =
      let r = zip-found es ps h in
      (no-fault-more e es p t ∙ r.0, found-more e es p t ∙ ap (λ qs. p ∷ qs) r.1)

  -- all have one, or there is a first that fails
  first-more : (e : External) (es : List External) (f : DeriveFault) → (p : Placed) × Taken e p → IsFirstIn among given j es f → IsFirstIn among given j (e ∷ es) f
  first-more e es f t h = record {
    before = e ∷ h.before;
    external = h.external;
    after = h.after;
    all = ap (λ xs. e ∷ xs) h.all;
    earlier = All-cons (λ x. (p : Placed) × Taken x p) e h.before t h.earlier;
    fails = h.fails;
  }

  pub external-cases : (es : List External) → ((ps : List Placed) × AllZip Taken es ps) ⊎ ((f : DeriveFault) × IsFirstIn among given j es f)
  external-cases [] = inl ([], tt)
  external-cases (e ∷ es) = elim (taken-cases (among e.1.1) given j e.0 e.1.0) [
    | inl t ↦ elim (external-cases es) [
      | inl s ↦ inl (t.0 ∷ s.0, (t.1, s.1))
      | inr s ↦ inr (s.0, first-more e es s.0 t s.1)
    ]
    | inr s ↦ inr (s.0, record { before = []; external = e; after = es; all = refl; earlier = All-nil (λ x. (p : Placed) × Taken x p); fails = s.1 })
  ]

  faults-append : (xs ys : List External) → AllTake among given j xs → faults (xs ++ ys) ≡ faults ys
  faults-append [] ys h = refl
  faults-append (x ∷ xs) ys h =
      let t = All-head (λ y. (p : Placed) × Taken y p) x xs h in
      no-fault-more x (xs ++ ys) t.0 t.1 ∙ faults-append xs ys (All-tail (λ y. (p : Placed) × Taken y p) x xs h)

  pub first-found : (es : List External) (f : DeriveFault) → IsFirstIn among given j es f → (fs : List DeriveFault) × (faults es ≡ f ∷ fs)
  first-found es f h = (faults h.after, ap faults h.all ∙ faults-append h.before (h.external ∷ h.after) h.earlier ∙ fault-more h.external h.after f h.fails)

  pub all-take : (es : List External) (ps : List Placed) → AllZip Taken es ps → AllTake among given j es
  all-take [] ps h = All-nil (λ x. (p : Placed) × Taken x p)
  all-take (e ∷ es) [] h = absurd h
  all-take (e ∷ es) (p ∷ ps) (t, h) = All-cons (λ x. (q : Placed) × Taken x q) e es (p, t) (all-take es ps h)

-- The modules.
module _ (ms : List PlacedModule) (given : List Given) where
  abbrev seen : ℕ × PlacedModule → Bool → List PlacedPublic
  seen m = seen_publics ms m.1

  abbrev faults-in : ℕ × PlacedModule → List DeriveFault
  faults-in m = filter_map err_of (external_places (seen m) given m.0 m.1.0)

  abbrev all-faults : List (ℕ × PlacedModule) → List DeriveFault
  all-faults ns = flat_map faults-in ns

  abbrev placements : List (ℕ × PlacedModule) → List Places
  placements ns = map (with_externals ms given) ns

  abbrev Fine : ℕ × PlacedModule → Type 0
  Fine m = AllTake (seen m) given m.0 (numbered m.1)

  same-places : (a b : Places) → a.segments ≡ b.segments → a.groups ≡ b.groups → a.externals ≡ b.externals → a ≡ b
  same-places a b s g e = ap (λ x. record { segments = x; groups = a.groups; externals = a.externals }) s
      ∙ ap (λ x. record { segments = b.segments; groups = x; externals = a.externals }) g ∙ ap (λ x. record { segments = b.segments; groups = b.groups; externals = x }) e

  zip-placed : (ns : List (ℕ × PlacedModule)) (pls : List Places) → AllZip (IsPlacement ms given) ns pls → (all-faults ns ≡ []) × (placements ns ≡ pls)
  zip-placed [] [] h = (refl, refl)
  zip-placed [] (p ∷ ps) h = absurd h
  zip-placed (n ∷ ns) [] h = absurd h
  zip-placed (n ∷ ns) (p ∷ ps) (t, h) =
      let r = zip-placed ns ps h in
      let s = zip-found (seen n) given n.0 (numbered n.1) p.externals t.externals in
      (ap₂ (λ xs ys. xs ++ ys) s.0 r.0, ap₂ (λ x xs. x ∷ xs) (same-places (with_externals ms given n) p (sym t.segments) (sym t.groups) s.1) r.1)

  first-module : (n : ℕ × PlacedModule) (ns : List (ℕ × PlacedModule)) (f : DeriveFault) → Fine n → IsFirstAmong ms given ns f → IsFirstAmong ms given (n ∷ ns) f
  first-module n ns f t h = record {
    before = n ∷ h.before;
    «module» = h.module;
    after = h.after;
    parts = ap (λ xs. n ∷ xs) h.parts;
    earlier = All-cons Fine n h.before t h.earlier;
    fault = h.fault;
  }

  module-cases : (ns : List (ℕ × PlacedModule)) → ((pls : List Places) × AllZip (IsPlacement ms given) ns pls) ⊎ ((f : DeriveFault) × IsFirstAmong ms given ns f)
  module-cases [] = inl ([], tt)
  module-cases (n ∷ ns) = elim (external-cases (seen n) given n.0 (numbered n.1)) [
    | inl t ↦ elim (module-cases ns) [
      | inl s ↦ inl (record { segments = n.1.1.segments; groups = n.1.1.groups; externals = t.0 } ∷ s.0, (record { segments = refl; groups = refl; externals = t.1 }, s.1))
      | inr s ↦ inr (s.0, first-module n ns s.0 (all-take (seen n) given n.0 (numbered n.1) t.0 t.1) s.1)
    ]
    | inr s ↦ inr (s.0, record { before = []; «module» = n; after = ns; parts = refl; earlier = All-nil Fine; fault = s.1 })
  ]

  all-faults-append : (xs ys : List (ℕ × PlacedModule)) → All Fine xs → all-faults (xs ++ ys) ≡ all-faults ys
  all-faults-append [] ys h = refl
  all-faults-append (x ∷ xs) ys h =
      ap₂ (λ a b. a ++ b) (none-fails (seen x) given x.0 (numbered x.1) (All-head Fine x xs h)) (all-faults-append xs ys (All-tail Fine x xs h))

  first-in-all : (ns : List (ℕ × PlacedModule)) (f : DeriveFault) → IsFirstAmong ms given ns f → (fs : List DeriveFault) × (all-faults ns ≡ f ∷ fs)
  first-in-all ns f h =
      let s = first-found (seen h.module) given h.module.0 (numbered h.module.1) f h.fault in
      (s.0 ++ all-faults h.after, ap all-faults h.parts ∙ all-faults-append h.before (h.module ∷ h.after) h.earlier ∙ ap (λ xs. xs ++ all-faults h.after) s.1)

  pub derived-to : (pls : List Places) → AreDerived ms given pls → derived ms given ≡ Ok pls
  derived-to pls h =
      let r = zip-placed (enumerate_from 0 ms) pls h in
      ap₂ (λ fs ps. unless_fault fs ps) r.0 r.1

  pub fault-to : (f : DeriveFault) → IsFirstFault ms given f → derived ms given ≡ Err f
  fault-to f h =
      let r = first-in-all (enumerate_from 0 ms) f h in
      ap (λ fs. unless_fault fs (placements (enumerate_from 0 ms))) r.1

  pub derived-from : (pls : List Places) → derived ms given ≡ Ok pls → AreDerived ms given pls
  derived-from pls h = elim (module-cases (enumerate_from 0 ms)) [
    | inl s ↦ subst (AreDerived ms given) (cc (derived-to s.0 s.1)) s.1
    | inr s ↦ absurd (cc (fault-to s.0 s.1))
  ]

  pub fault-from : (f : DeriveFault) → derived ms given ≡ Err f → IsFirstFault ms given f
  fault-from f h = elim (module-cases (enumerate_from 0 ms)) [
    | inl s ↦ absurd (cc (derived-to s.0 s.1))
    | inr s ↦ subst (IsFirstFault ms given) (cc (fault-to s.0 s.1)) s.1
  ]

  pub derived-is-taken : DerivedIsTaken ms given
  derived-is-taken = record {
    placements = λ pls. (derived-from pls, derived-to pls);
    fault = λ f. (fault-from f, fault-to f);
  }

-- Derived placements have as many entries as their modules.
use Rattle.std.proofs.Common.{◌≡◌, ℕ, suc, ◌+◌, List, [], ◌∷◌, ◌++◌, refl, ◌∙◌, ap, subst, length, arith}
use Rattle.std.specs.Prelude.{map, flat_map, filter_map, is_ok, Result, Ok, Err}
use Rattle.std.specs.List.{enumerate_from, AllZip}
use Rattle.std.proofs.lemmas.Bool.{false≢true}
use Rattle.std.proofs.lemmas.List.{length-map}
use Rattle.std.proofs.lemmas.List.FromFn.{length-enumerate_from}
use Rattle.omf_check.specs.Tables.{externals}
use Rattle.omf_placement.specs.declared.several.fault.DeriveFault.{DeriveFault}
use Rattle.omf_placement.specs.declared.several.given.Given.{Given}
use Rattle.omf_placement.specs.Derive.{PlacedModule, seen_publics, named_externals}
use Rattle.omf_placement.specs.Inner.Derived.{external_place, external_places, ok_of, err_of, derive_faults, with_externals, unless_fault, derived}
use Rattle.omf_placement.specs.Derivation.{KeepsPlace}
use Rattle.omf_placement.specs.declared.frame.Placed.{Placed}
use Rattle.omf_placement.specs.Placement.{Places}
use Rattle.omf_placement.proofs.NamedLaws.{named-count}

pub nil-left : {A : Type 0} (xs ys : List A) → xs ++ ys ≡ [] → xs ≡ []
nil-left [] ys h = refl
nil-left (x ∷ xs) ys h = absurd (omega (arith, ap length h))

pub nil-right : {A : Type 0} (xs ys : List A) → xs ++ ys ≡ [] → ys ≡ []
nil-right [] ys h = h
nil-right (x ∷ xs) ys h = absurd (omega (arith, ap length h))

abbrev value-or : {A B : Type 0} → A → Result A B → A
value-or d (Ok a) = a
value-or d (Err e) = d

-- Without a fault, each has its place.
all-placed : (rs : List (Result Placed DeriveFault)) → filter_map err_of rs ≡ [] → length (filter_map ok_of rs) ≡ length rs
all-placed [] h = refl
all-placed (Ok p ∷ rs) h = ap (λ n. suc n) (all-placed rs h)
all-placed (Err e ∷ rs) h = absurd (omega (arith, ap length h))

module _ (ms : List PlacedModule) (given : List Given) where
  count-externals : (j : ℕ) (m : PlacedModule) → length (external_places (seen_publics ms m) given j m.0) ≡ length (externals m.0)
  count-externals j m = length-map (enumerate_from 1 (named_externals m.0)) (λ e. external_place (seen_publics ms m e.1.1) given j e.0 e.1.0) ∙ length-enumerate_from 1 (named_externals m.0) ∙ named-count m.0

  abbrev faults-from : ℕ → List PlacedModule → List DeriveFault
  faults-from k ns = flat_map (λ m. filter_map err_of (external_places (seen_publics ms m.1) given m.0 m.1.0)) (enumerate_from k ns)

  kept-from : (k : ℕ) (ns : List PlacedModule) → faults-from k ns ≡ [] → AllZip KeepsPlace ns (map (with_externals ms given) (enumerate_from k ns))
  kept-from k [] h = tt
  kept-from k (m ∷ ns) h = (
    record {
      segments = refl;
      groups = refl;
      external_count = all-placed (external_places (seen_publics ms m) given k m.0) (nil-left (filter_map err_of (external_places (seen_publics ms m) given k m.0)) (faults-from (k + 1) ns) h) ∙ count-externals k m;
    },
    kept-from (k + 1) ns (nil-right (filter_map err_of (external_places (seen_publics ms m) given k m.0)) (faults-from (k + 1) ns) h),
  )

  no-fault : (es : List DeriveFault) (ns pls : List Places) → unless_fault es ns ≡ Ok pls → (es ≡ []) × (ns ≡ pls)
  no-fault [] ns pls h = (refl, ap (value-or ns) h)
  no-fault (e ∷ es) ns pls h = absurd (false≢true (ap is_ok h))

  pub derived-fit : (pls : List Places) → derived ms given ≡ Ok pls → AllZip KeepsPlace ms pls
  derived-fit pls h =
      let parts = no-fault (derive_faults ms given) (map (with_externals ms given) (enumerate_from 0 ms)) pls h in
      subst (AllZip KeepsPlace ms) parts.1 (kept-from 0 ms parts.0)

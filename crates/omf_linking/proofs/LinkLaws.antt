-- As many placements are derived as there are modules; and what a link gives, from its steps.
use Rattle.std.proofs.Common.{◌≡◌, ℕ, List, [], ◌∷◌, length, arith, refl, sym, ap, ◌∙◌, inl, inr}
use Rattle.std.specs.Prelude.{Ok, Err, Result, map, zip, ◌==◌, false, ◌⊎◌, IsOk}
use Rattle.std.specs.List.{enumerate_from}
use Rattle.std.proofs.lemmas.List.{length-map}
use Rattle.std.proofs.lemmas.List.FromFn.{length-enumerate_from}
use Rattle.omf_check.specs.Module.{Module, typed_modules}
use Rattle.omf_records.specs.Values.{Rec}
use Rattle.omf_placement.specs.Inner.Derived.{derived, derive_faults, unless_fault, with_externals}
use Rattle.omf_placement.specs.Derive.{placed_modules}
use Rattle.omf_placement.specs.declared.several.fault.DeriveFault.{DeriveFault}
use Rattle.omf_placement.specs.declared.several.fault.DeriveFault.TheVariants as derive
use Rattle.omf_placement.specs.declared.several.given.Given.{Given}
use Rattle.omf_placement.specs.Placement.{Places}
use Rattle.omf_placement.specs.Weak.{with_weak}
use Rattle.omf_linking.specs.Faults.{of_derive}
use Rattle.omf_linking.specs.Locator.Sparse.{Sparse, sparse}
use Rattle.omf_linking.specs.Placing.{IsOutcome, by_sparse, derived_or, found, given_of, linked, places_of}
use Rattle.omf_linking.specs.declared.fault.LinkFault.{LinkFault}

as_many : (ms : List Module) (pls : List Places) → length pls ≡ length ms → length (placed_modules ms pls) ≡ length ms
as_many [] [] e = refl
as_many [] (p ∷ pls) e = refl
as_many (m ∷ ms) [] e = absurd (omega arith)
as_many (m ∷ ms) (p ∷ pls) e = let rest = as_many ms pls (omega arith) in omega (arith, rest)

ok_is : (fs : List DeriveFault) (a b : List Places) → unless_fault fs a ≡ Ok b → a ≡ b
ok_is [] a b h = cc
ok_is (f ∷ fs) a b h = absurd cc

pub derived_as_many : (ms : List Module) (pls all : List Places) (gs : List Given) → length pls ≡ length ms → derived (placed_modules ms pls) gs ≡ Ok all → length all ≡ length ms
derived_as_many ms pls all gs e h =
    let placed = placed_modules ms pls in
    let made : List Places = map (with_externals placed gs) (enumerate_from 0 placed) in
    let same : made ≡ all = ok_is (derive_faults placed gs) made all h in
    ap length (sym same) ∙ length-map (enumerate_from 0 placed) (with_externals placed gs) ∙ length-enumerate_from 0 placed ∙ as_many ms pls e

-- modules that are there, typed
pub some-typed : (ms : List Module) → length ms == 0 ≡ false → typed_modules ms ≡ [] → ⊥
some-typed [] h e = absurd cc
some-typed (m ∷ ms) h e = cc

-- a link of some modules, from its lines, its places and the externals that are given one
pub linked-as : (ms : List (List Rec)) (text : List ℕ) (ss : List Sparse) (pls : List Places) (r : Result (List Places) DeriveFault) → (ms ≡ [] → ⊥)
    → sparse ms text ≡ Ok ss → places_of 0 (zip ms ss) ≡ Ok pls → derived (zip ms pls) (with_weak (zip ms pls) (given_of ss)) ≡ r → linked ms text ≡ derived_or r
linked-as [] text ss pls r n s p d = absurd (n refl)
linked-as (m ∷ ms) text ss pls r n s p d = ap (by_sparse (m ∷ ms)) s ∙ ap (found (m ∷ ms) ss) p ∙ ap derived_or d

-- its fault, if an external has no place or memory runs out
pub external-outcome : (r : Result (List Places) LinkFault) (d : Result (List Places) DeriveFault) (f : DeriveFault) → r ≡ derived_or d
    → ((f ≡ derive.Memory) × IsOk d) ⊎ (d ≡ Err f) → IsOutcome r (Err (of_derive f))
external-outcome r d derive.Memory e h = tt
external-outcome r d (derive.Undefined j i) e (inl h) = let x = h.0 in absurd cc
external-outcome r d (derive.Undefined j i) e (inr h) = e ∙ ap derived_or h
external-outcome r d (derive.Twice j i) e (inl h) = let x = h.0 in absurd cc
external-outcome r d (derive.Twice j i) e (inr h) = e ∙ ap derived_or h
external-outcome r d (derive.TooHigh j i) e (inl h) = let x = h.0 in absurd cc
external-outcome r d (derive.TooHigh j i) e (inr h) = e ∙ ap derived_or h

-- Externals of a module, and modules, in order, until one has no place.
use Rattle.std.proofs.Common.{◌≡◌, ℕ, zero, suc, ◌+◌, ◌-◌, ◌≤◌, List, [], ◌∷◌, ◌++◌, length, drop, refl, sym, ap, ap₂, ◌∙◌, subst, inl, inr, append-nil, append_assoc, arith}
use Rattle.std.specs.Prelude.{◌⊎◌, Bool, map, flat_map, filter_map, zip, slice_get, Some, Result, Ok, Err, is_ok}
use Rattle.std.specs.List.{AllZip, enumerate_from}
use Rattle.std.proofs.Math.Seq.{drop-nil}
use Rattle.std.proofs.lemmas.Bool.{false≢true, true≢false}
use Rattle.std.proofs.lemmas.Option.{none-some, same_Some}
use Rattle.omf_check.specs.Module.{Module, typed_modules}
use Rattle.omf_check.specs.Tables.{externals, entry}
use Rattle.omf_placement.specs.Derivation.{External, IsPlaceOf}
use Rattle.omf_records.specs.Values.{Rec}
use Rattle.omf_placement.specs.declared.several.fault.DeriveFault.{DeriveFault}
use Rattle.omf_placement.specs.declared.several.fault.DeriveFault.TheVariants as fault
use Rattle.omf_placement.specs.declared.several.given.Given.{Given}
use Rattle.omf_placement.specs.Derive.{PlacedModule, PlacedPublic, seen_publics, named_externals}
use Rattle.omf_placement.specs.Inner.Derived.{external_place, external_places, ok_of, err_of, derive_faults, resolved_in, with_externals, unless_fault, resolved, derived}
use Rattle.omf_placement.specs.Inner.Deriving.{IsFound, IsFirstErr, IsTried, with_own}
use Rattle.omf_placement.specs.declared.frame.Placed.{Placed}
use Rattle.omf_placement.specs.Placement.{Places}
use Rattle.omf_placement.proofs.NamedLaws.{entry-suc, named-count}

-- There is a placement for each module.
pub same-length : (ms : List Module) (pls : List Places) → AllZip IsPlaceOf (typed_modules ms) pls → length pls ≡ length ms
same-length [] [] h = refl
same-length [] (p ∷ pls) h = absurd h
same-length (m ∷ ms) [] h = absurd h
same-length (m ∷ ms) (p ∷ pls) h = ap (λ n. suc n) (same-length ms pls h.1)

-- The entries of a table from one on.
pub drop-some : {A : Type 0} (xs : List A) (k : ℕ) (x : A) → slice_get xs k ≡ Some x → drop k xs ≡ x ∷ drop (k + 1) xs
drop-some [] k x h = absurd (none-some x h)
drop-some (y ∷ xs) zero x h = ap (λ z. z ∷ xs) (same_Some y x h)
drop-some (y ∷ xs) (suc k) x h =
    let e : suc (k + 1) ≡ suc k + 1 = omega arith in drop-some xs k x h ∙ ap (λ n. x ∷ drop n (y ∷ xs)) e

pub drop-past : {A : Type 0} (xs : List A) (k : ℕ) → length xs ≤ k → drop k xs ≡ []
drop-past [] k h = drop-nil k
drop-past (x ∷ xs) zero h = absurd (omega arith)
drop-past (x ∷ xs) (suc k) h = drop-past xs k (omega arith)

-- One more place.
ok-more : (ps : List Placed) (p : Placed) (rs : List (Result Placed DeriveFault)) → map (λ q. Ok q) (ps ++ p ∷ []) ++ rs ≡ map (λ q. Ok q) ps ++ Ok p ∷ rs
ok-more [] p rs = refl
ok-more (q ∷ ps) p rs = ap (λ xs. Ok q ∷ xs) (ok-more ps p rs)

module _ (among : Bool → List PlacedPublic) (given : List Given) (j : ℕ) (m : List Rec) where
  abbrev outcome : External → Result Placed DeriveFault
  outcome e = external_place (among e.1.1) given j e.0 e.1.0

  -- the outcomes of the externals from one on
  abbrev pub outcomes_from : ℕ → List (Result Placed DeriveFault)
  outcomes_from i = map outcome (enumerate_from i (drop (i - 1) (named_externals m)))

  -- some have their places, and the others remain
  abbrev pub IsSoFar : List Placed → ℕ → Type 0
  IsSoFar ps i = map (λ p. Ok p) ps ++ outcomes_from i ≡ external_places among given j m

  module _ (i : ℕ) (x : List ℕ × Bool) (low : 1 ≤ i) (e : entry (named_externals m) i ≡ Some x) where
    pub next-outcome : outcomes_from i ≡ external_place (among x.1) given j i x.0 ∷ outcomes_from (i + 1)
    next-outcome =
        let back : suc (i - 1) ≡ i = omega (arith, low) in
        let next : i - 1 + 1 ≡ i + 1 - 1 = omega (arith, low) in
        let s = drop-some (named_externals m) (i - 1) x (sym (entry-suc (named_externals m) (i - 1)) ∙ ap (entry (named_externals m)) back ∙ e) in
        ap (λ xs. map outcome (enumerate_from i xs)) (s ∙ ap (λ n. x ∷ drop n (named_externals m)) next)

    pub one-placed : (ps now : List Placed) (p : Placed) → external_place (among x.1) given j i x.0 ≡ Ok p → now ≡ ps ++ p ∷ [] → IsSoFar ps i → IsSoFar now (i + 1)
    one-placed ps now p f n h =
        ap (λ qs. map (λ q. Ok q) qs ++ outcomes_from (i + 1)) n ∙ ok-more ps p (outcomes_from (i + 1))
        ∙ ap (λ r. map (λ q. Ok q) ps ++ r ∷ outcomes_from (i + 1)) (sym f) ∙ ap (λ rs. map (λ q. Ok q) ps ++ rs) (sym next-outcome) ∙ h

    pub one-fails : (ps : List Placed) (f : DeriveFault) → external_place (among x.1) given j i x.0 ≡ Err f → IsSoFar ps i → IsFirstErr (external_places among given j m) f
    one-fails ps f e h = record {
      before = ps;
      after = outcomes_from (i + 1);
      all = sym h ∙ ap (λ rs. map (λ q. Ok q) ps ++ rs) next-outcome ∙ ap (λ r. map (λ q. Ok q) ps ++ r ∷ outcomes_from (i + 1)) e;
    }

  pub none_from : (i : ℕ) → length (externals m) + 1 ≤ i → outcomes_from i ≡ []
  none_from i l = ap (λ xs. map outcome (enumerate_from i xs)) (drop-past (named_externals m) (i - 1) (omega (arith, l, named-count m)))

  pub all-placed : (ps : List Placed) (i : ℕ) → length (externals m) + 1 ≤ i → IsSoFar ps i → external_places among given j m ≡ map (λ p. Ok p) ps
  all-placed ps i l h =
      sym h ∙ ap (λ xs. map (λ q. Ok q) ps ++ map outcome (enumerate_from i xs)) (drop-past (named_externals m) (i - 1) (omega (arith, l, named-count m))) ∙ append-nil (map (λ q. Ok q) ps)

pub err-found : (rs : List (Result Placed DeriveFault)) (f : DeriveFault) (r : Result (List Placed) DeriveFault) → r ≡ Err f → IsFirstErr rs f → IsFound rs r
err-found rs f r e h = subst (IsFound rs) (sym e) (inr h)

-- The places and the faults of outcomes.
oks-only : (ps : List Placed) → (filter_map err_of (map (λ p. Ok p) ps) ≡ []) × (filter_map ok_of (map (λ p. Ok p) ps) ≡ ps)
oks-only [] = (refl, refl)
oks-only (p ∷ ps) = let r = oks-only ps in (r.0, ap (λ qs. p ∷ qs) r.1)

oks-first : (ps : List Placed) (rs : List (Result Placed DeriveFault)) → filter_map err_of (map (λ p. Ok p) ps ++ rs) ≡ filter_map err_of rs
oks-first [] rs = refl
oks-first (p ∷ ps) rs = oks-first ps rs

module _ (ms : List PlacedModule) (given : List Given) where
  -- the faults of the modules from one on, and the places of their externals
  abbrev pub faults_from : ℕ → List (DeriveFault)
  faults_from j = flat_map (λ m. filter_map err_of (external_places (seen_publics ms m.1) given m.0 m.1.0)) (enumerate_from j (drop j ms))

  abbrev pub resolved_from : ℕ → List (List Placed)
  resolved_from j = map (resolved_in ms given) (enumerate_from j (drop j ms))

  -- the externals of some modules have their places and no fault, and the others remain
  pub record IsReached (ess : List (List Placed)) (j : ℕ) : Type 0 where
    pub places : ess ++ resolved_from j ≡ resolved_from 0
    pub faults : faults_from j ≡ faults_from 0

  module _ (j : ℕ) (m : PlacedModule) (next : drop j ms ≡ m ∷ drop (j + 1) ms) where
    next-faults : faults_from j ≡ filter_map err_of (external_places (seen_publics ms m) given j m.0) ++ faults_from (j + 1)
    next-faults = ap (λ xs. flat_map (λ n. filter_map err_of (external_places (seen_publics ms n.1) given n.0 n.1.0)) (enumerate_from j xs)) next

    next-places : resolved_from j ≡ resolved_in ms given (j, m) ∷ resolved_from (j + 1)
    next-places = ap (λ xs. map (resolved_in ms given) (enumerate_from j xs)) next

    pub module-placed : (ps : List Placed) (ess now : List (List Placed)) → external_places (seen_publics ms m) given j m.0 ≡ map (λ p. Ok p) ps → now ≡ ess ++ ps ∷ [] → IsReached ess j → IsReached now (j + 1)
    module-placed ps ess now e n h =
        let o = oks-only ps in
        let none : filter_map err_of (external_places (seen_publics ms m) given j m.0) ≡ [] = ap (filter_map err_of) e ∙ o.0 in
        let same : resolved_in ms given (j, m) ≡ ps = ap (filter_map ok_of) e ∙ o.1 in
        record {
          places = ap (λ xs. xs ++ resolved_from (j + 1)) n ∙ append_assoc ess (ps ∷ []) (resolved_from (j + 1))
              ∙ ap (λ x. ess ++ x ∷ resolved_from (j + 1)) (sym same) ∙ ap (λ xs. ess ++ xs) (sym next-places) ∙ h.places;
          faults = ap (λ fs. fs ++ faults_from (j + 1)) (sym none) ∙ sym next-faults ∙ h.faults;
        }

    first-fault : (f : DeriveFault) (ess : List (List Placed)) → (e : IsFirstErr (external_places (seen_publics ms m) given j m.0) f) → IsReached ess j → faults_from 0 ≡ (f ∷ filter_map err_of e.after) ++ faults_from (j + 1)
    first-fault f ess e h =
        let first : filter_map err_of (external_places (seen_publics ms m) given j m.0) ≡ f ∷ filter_map err_of e.after = ap (filter_map err_of) e.all ∙ oks-first e.before (Err f ∷ e.after) in
        sym h.faults ∙ next-faults ∙ ap (λ fs. fs ++ faults_from (j + 1)) first

    pub module-fails : (f : DeriveFault) (ess : List (List Placed)) → IsFirstErr (external_places (seen_publics ms m) given j m.0) f → IsReached ess j → derived ms given ≡ Err f
    module-fails f ess e h = ap (λ fs. unless_fault fs (map (with_externals ms given) (enumerate_from 0 ms))) (first-fault f ess e h)

    pub module-ends : (f : DeriveFault) (ess : List (List Placed)) → (f ≡ fault.Memory) ⊎ IsFirstErr (external_places (seen_publics ms m) given j m.0) f → IsReached ess j → (f ≡ fault.Memory) ⊎ (resolved ms given ≡ Err f)
    module-ends f ess (inl e) h = inl e
    module-ends f ess (inr e) h = inr (ap (λ fs. unless_fault fs (resolved_from 0)) (first-fault f ess e h))

  none-faulty : (ess : List (List Placed)) (j : ℕ) → drop j ms ≡ [] → IsReached ess j → faults_from 0 ≡ []
  none-faulty ess j e h = sym h.faults ∙ ap (λ xs. flat_map (λ n. filter_map err_of (external_places (seen_publics ms n.1) given n.0 n.1.0)) (enumerate_from j xs)) e

  pub modules-placed : (ess : List (List Placed)) (j : ℕ) → drop j ms ≡ [] → IsReached ess j → derived ms given ≡ Ok (map (with_externals ms given) (enumerate_from 0 ms))
  modules-placed ess j e h = ap (λ fs. unless_fault fs (map (with_externals ms given) (enumerate_from 0 ms))) (none-faulty ess j e h)

  pub modules-resolved : (ess : List (List Placed)) (j : ℕ) → drop j ms ≡ [] → IsReached ess j → resolved ms given ≡ Ok ess
  modules-resolved ess j e h =
      let all : resolved_from 0 ≡ ess = sym h.places ∙ ap (λ xs. ess ++ map (resolved_in ms given) (enumerate_from j xs)) e ∙ append-nil ess in
      ap₂ (λ fs ps. unless_fault fs ps) (none-faulty ess j e h) all

pub err-tried : (d r : Result (List (List Placed)) DeriveFault) (f : DeriveFault) → r ≡ Err f → (f ≡ fault.Memory) ⊎ (d ≡ Err f) → IsTried d r
err-tried d r f e h = subst (IsTried d) (sym e) h

-- Placements with the places of the externals are the derived ones, and the first fault is that of the derivation.
abbrev value-or : {A B : Type 0} → A → Result A B → A
value-or d (Ok a) = a
value-or d (Err e) = d

abbrev fault-or : {A B : Type 0} → B → Result A B → B
fault-or d (Ok a) = d
fault-or d (Err e) = e

unless-ok : {A : Type 0} (es : List DeriveFault) (a b : A) → unless_fault es a ≡ Ok b → (es ≡ []) × (a ≡ b)
unless-ok [] a b h = (refl, ap (value-or a) h)
unless-ok (e ∷ es) a b h = absurd (false≢true (ap is_ok h))

unless-err : {A B : Type 0} (es : List DeriveFault) (a : A) (b : B) (f : DeriveFault) → unless_fault es a ≡ Err f → unless_fault es b ≡ Err f
unless-err [] a b f h = absurd (true≢false (ap is_ok h))
unless-err (e ∷ es) a b f h = ap (λ x. Err x) (ap (fault-or e) h)

module _ (ms : List PlacedModule) (given : List Given) where
  filled-from : (k : ℕ) (tm : List (List Rec)) (pls : List Places) → AllZip IsPlaceOf tm pls
      → map (with_externals ms given) (enumerate_from k (zip tm pls)) ≡ map with_own (zip pls (map (resolved_in ms given) (enumerate_from k (zip tm pls))))
  filled-from k [] [] h = refl
  filled-from k [] (p ∷ pls) h = absurd h
  filled-from k (m ∷ tm) [] h = absurd h
  filled-from k (m ∷ tm) (p ∷ pls) h = ap (λ xs. with_externals ms given (k, (m, p)) ∷ xs) (filled-from (k + 1) tm pls h.1)

  many-from : (k : ℕ) (tm : List (List Rec)) (pls : List Places) → AllZip IsPlaceOf tm pls → length (map (resolved_in ms given) (enumerate_from k (zip tm pls))) ≡ length pls
  many-from k [] [] h = refl
  many-from k [] (p ∷ pls) h = absurd h
  many-from k (m ∷ tm) [] h = absurd h
  many-from k (m ∷ tm) (p ∷ pls) h = ap (λ n. suc n) (many-from (k + 1) tm pls h.1)

module _ (tm : List (List Rec)) (pls : List Places) (own : AllZip IsPlaceOf tm pls) (given : List Given) where
  pub as-many : (ess : List (List Placed)) → resolved (zip tm pls) given ≡ Ok ess → length ess ≡ length pls
  as-many ess e =
      let parts = unless-ok (derive_faults (zip tm pls) given) (map (resolved_in (zip tm pls) given) (enumerate_from 0 (zip tm pls))) ess e in
      ap length (sym parts.1) ∙ many-from (zip tm pls) given 0 tm pls own

  pub filled : (ess : List (List Placed)) → resolved (zip tm pls) given ≡ Ok ess → derived (zip tm pls) given ≡ Ok (map with_own (zip pls ess))
  filled ess e =
      let parts = unless-ok (derive_faults (zip tm pls) given) (map (resolved_in (zip tm pls) given) (enumerate_from 0 (zip tm pls))) ess e in
      ap (λ fs. unless_fault fs (map (with_externals (zip tm pls) given) (enumerate_from 0 (zip tm pls)))) parts.0
      ∙ ap (λ x. Ok x) (filled-from (zip tm pls) given 0 tm pls own ∙ ap (λ xs. map with_own (zip pls xs)) parts.1)

  pub fails-too : (f : DeriveFault) → resolved (zip tm pls) given ≡ Err f → derived (zip tm pls) given ≡ Err f
  fails-too f e = unless-err (derive_faults (zip tm pls) given) (map (resolved_in (zip tm pls) given) (enumerate_from 0 (zip tm pls))) (map (with_externals (zip tm pls) given) (enumerate_from 0 (zip tm pls))) f e

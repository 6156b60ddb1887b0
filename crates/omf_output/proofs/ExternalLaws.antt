-- Externals that are derived at moved segments and groups are where the derived ones are moved to.
use Rattle.std.proofs.Common.{◌≡◌, ℕ, suc, ◌+◌, ◌<◌, ◌^◌, List, [], ◌∷◌, ◌++◌, Bool, true, false, cond, refl, sym, ap, ap₂, ◌∙◌, subst, arith}
use Rattle.std.specs.Prelude.{map, flat_map, filter_map, zip, All, Option, Some, None, option_map, slice_get, Result, Ok, Err, is_ok, bytes_eq}
use Rattle.std.specs.List.{AllZip, enumerate_from, cons_option}
use Rattle.std.proofs.lemmas.Bool.{false≢true}
use Rattle.std.proofs.lemmas.List.{length-map}
use Rattle.std.proofs.lemmas.List.Elements.{All-nil, All-cons, All-head, All-tail}
use Rattle.std.proofs.lemmas.Option.{slice_get-map}
use Rattle.omf_records.specs.Values.{Rec}
use Rattle.omf_image.specs.Limits.{profile_limits}
use Rattle.omf_check.specs.Sound.{ModuleHolds}
use Rattle.omf_check.specs.Tables.{groups, segments}
use Rattle.omf_placement.specs.declared.frame.Placed.{Placed}
use Rattle.omf_placement.specs.declared.several.fault.DeriveFault.{DeriveFault}
use Rattle.omf_placement.specs.Derivation.{IsPlaceOf}
use Rattle.omf_placement.specs.Derive.{PlacedModule, all_publics, named_externals, publics, seen_publics}
use Rattle.omf_placement.specs.Inner.Derived.{derive_faults, derived, err_of, external_places, of_name, ok_of, unless_fault, with_externals}
use Rattle.omf_placement.specs.Placement.{Places}
use Rattle.omf_placement.specs.Weak.{weak_given, weak_pairs, with_weak}
use Rattle.omf_placement.proofs.DeriveLaws.{nil-left, nil-right}
use Rattle.omf_output.specs.declared.exe.movers.Moving.{Moving}
use Rattle.omf_output.specs.Exe.Based.{is_movable}
use Rattle.omf_output.specs.Exe.Derived.{AreMovers, BasedModule, Named, all_movers, bases_in, externals_moving, lows, movers_in, moving_in_module, moving_of_name, name_at, name_moves, referred, seen_moving, with_bases}
use Rattle.omf_output.specs.Exe.Laws.{AreLow, ExternalsMove, all_moved, derived_at}
use Rattle.omf_output.specs.Exe.Moved.{Movers, moved, where_parted}
use Rattle.omf_output.proofs.ExternalMoves.{IsLow, all-taken, externals-are, moves_by, outcomes-low, outcomes-raised, taken, way}
use Rattle.omf_output.proofs.PublicMoves.{AreTraced, Traced, both-traced, module-traced, moving_as, none-traced, placed_as, raised, raised_as}

-- ---- the publics of a name

abbrev of_this : List ℕ → Traced → Option Traced
of_this name t = cond (bytes_eq name t.name) (Some t) None

named-step : {B : Type 0} (h : Traced → B) (b : Bool) (t : Traced) (ts : List Traced) → cons_option (cond b (Some (h t)) None) (map h ts) ≡ map h (cons_option (cond b (Some t) None) ts)
named-step h true t ts = refl
named-step h false t ts = refl

filter-named : {A B : Type 0} (g : A → Option B) (f : Traced → A) (h : Traced → B) (name : List ℕ) → ((t : Traced) → g (f t) ≡ cond (bytes_eq name t.name) (Some (h t)) None)
    → (ts : List Traced) → filter_map g (map f ts) ≡ map h (filter_map (of_this name) ts)
filter-named g f h name same [] = refl
filter-named g f h name same (t ∷ ts) =
    ap₂ (λ o xs. cons_option o xs) (same t) (filter-named g f h name same ts) ∙ named-step h (bytes_eq name t.name) t (filter_map (of_this name) ts)

oks-only : (ps : List Placed) → (filter_map err_of (map (λ p. Ok p) ps) ≡ []) × (filter_map ok_of (map (λ p. Ok p) ps) ≡ ps)
oks-only [] = (refl, refl)
oks-only (p ∷ ps) = let r = oks-only ps in (r.0, ap (λ qs. p ∷ qs) r.1)

-- ---- what moves of placed modules, and these modules moved

abbrev based_by : List Named → PlacedModule → BasedModule
based_by ls x = (x.0, bases_in ls x.0)

abbrev bases_by : List Named → List PlacedModule → List BasedModule
bases_by ls all = map (based_by ls) all

abbrev externals_by : List Named → List PlacedModule → List Rec → List Moving
externals_by ls all m = externals_moving (referred (bases_by ls all) (m, bases_in ls m)) (weak_pairs m)

abbrev movers_by : List Named → List PlacedModule → PlacedModule → Movers
movers_by ls all x = record (bases_in ls x.0) { externals = externals_by ls all x.0 }

abbrev raised_by : ℕ → List Named → List PlacedModule → PlacedModule → PlacedModule
raised_by k ls all x = (x.0, moved k (movers_by ls all x) x.1)

abbrev all_raised : ℕ → List Named → List PlacedModule → List PlacedModule
all_raised k ls all = map (raised_by k ls all) all

-- A well-formed module, and a placement with an entry for each of its segments and groups.
abbrev Stands : PlacedModule → Type 0
Stands x = ModuleHolds profile_limits x.0 × IsPlaceOf x.0 x.1

abbrev with_list : Places → List Placed → Places
with_list pl ps = record pl { externals = ps }

module _ (k : ℕ) (ls : List Named) (all : List PlacedModule) (stand : All Stands all) where
  abbrev lift : PlacedModule → PlacedModule
  lift x = raised_by k ls all x

  abbrev lifted : List PlacedModule
  lifted = all_raised k ls all

  own-traced : (x : PlacedModule) → Stands x → (local : Bool) → AreTraced k (publics local x) (publics local (lift x)) (moving_in_module local (based_by ls x))
  own-traced x h local =
      module-traced k (bases_in ls x.0) (externals_by ls all x.0) x.0 x.1
      (length-map (segments x.0) (λ s. is_movable s.absolute) ∙ sym h.1.segments) (length-map (groups x.0) (λ g. name_moves ls (name_at x.0 g.name.item)) ∙ sym h.1.groups) h.0 h.1 local

  from-traced : (xs : List PlacedModule) → All Stands xs → AreTraced k (all_publics xs) (all_publics (map lift xs)) (flat_map (moving_in_module false) (map (based_by ls) xs))
  from-traced [] h = none-traced k
  from-traced (x ∷ xs) h =
      both-traced k (publics false x) (publics false (lift x)) (all_publics xs) (all_publics (map lift xs)) (moving_in_module false (based_by ls x)) (flat_map (moving_in_module false) (map (based_by ls) xs))
      (own-traced x (All-head Stands x xs h) false) (from-traced xs (All-tail Stands x xs h))

  seen-traced : (x : PlacedModule) → Stands x → (local : Bool) → AreTraced k (seen_publics all x local) (seen_publics lifted (lift x) local) (seen_moving (bases_by ls all) (based_by ls x) local)
  seen-traced x h true = own-traced x h true
  seen-traced x h false = from-traced all stand

  module _ (j : ℕ) (x : PlacedModule) (here : slice_get all j ≡ Some x) (h : Stands x) where
    abbrev traces : Bool → List Traced
    traces local = (seen-traced x h local).list

    abbrev refer : List ℕ × Bool → List Traced
    refer e = filter_map (of_this e.0) (traces e.1)

    abbrev refs : List (List Traced)
    refs = map refer (named_externals x.0)

    placed-named : (e : List ℕ × Bool) → filter_map (of_name e.0) (seen_publics all x e.1) ≡ map (λ t. t.place) (refer e)
    placed-named e = ap (filter_map (of_name e.0)) (seen-traced x h e.1).placed ∙ filter-named (of_name e.0) placed_as (λ t. t.place) e.0 (λ t. refl) (traces e.1)

    raised-named : (e : List ℕ × Bool) → filter_map (of_name e.0) (seen_publics lifted (lift x) e.1) ≡ map (raised k) (refer e)
    raised-named e = ap (filter_map (of_name e.0)) (seen-traced x h e.1).raised ∙ filter-named (of_name e.0) (raised_as k) (raised k) e.0 (λ t. refl) (traces e.1)

    moving-named : (e : List ℕ × Bool) → filter_map (moving_of_name e.0) (seen_moving (bases_by ls all) (based_by ls x) e.1) ≡ map way (refer e)
    moving-named e = ap (filter_map (moving_of_name e.0)) (seen-traced x h e.1).moving ∙ filter-named (moving_of_name e.0) moving_as way e.0 (λ t. refl) (traces e.1)

    refers : (es : List (List ℕ × Bool)) → map (λ e. filter_map (moving_of_name e.0) (seen_moving (bases_by ls all) (based_by ls x) e.1)) es ≡ map (map way) (map refer es)
    refers [] = refl
    refers (e ∷ es) = ap₂ (λ y ys. y ∷ ys) (moving-named e) (refers es)

    ways-are : externals_by ls all x.0 ≡ map (moves_by refs (weak_pairs x.0)) (enumerate_from 1 refs)
    ways-are = ap (λ rs. externals_moving rs (weak_pairs x.0)) (refers (named_externals x.0)) ∙ externals-are refs (weak_pairs x.0)

    abbrev outcomes_before : List (Result Placed DeriveFault)
    outcomes_before = external_places (seen_publics all x) (weak_given all []) j x.0

    abbrev outcomes_after : List (Result Placed DeriveFault)
    outcomes_after = external_places (seen_publics lifted (lift x)) (weak_given lifted []) j x.0

    before-is : outcomes_before ≡ map (taken (λ t. t.place) j refs (weak_pairs x.0)) (enumerate_from 1 refs)
    before-is = all-taken all j x here refer (λ t. t.place) placed-named

    after-is : outcomes_after ≡ map (taken (raised k) j refs (weak_pairs x.0)) (enumerate_from 1 refs)
    after-is = all-taken lifted j (lift x) (slice_get-map lift all j ∙ ap (option_map lift) here) refer (raised k) raised-named

    module-raised : filter_map err_of outcomes_before ≡ [] → All IsLow (where_parted k (externals_by ls all x.0) (filter_map ok_of outcomes_before))
        → outcomes_after ≡ map (λ p. Ok p) (where_parted k (externals_by ls all x.0) (filter_map ok_of outcomes_before))
    module-raised none low =
        after-is
        ∙ outcomes-raised k j refs (weak_pairs x.0) (ap (filter_map err_of) (sym before-is) ∙ none)
        (subst (λ ws. All IsLow (where_parted k ws (filter_map ok_of (map (taken (λ t. t.place) j refs (weak_pairs x.0)) (enumerate_from 1 refs))))) ways-are
        (subst (λ rs. All IsLow (where_parted k (externals_by ls all x.0) (filter_map ok_of rs))) before-is low))
        ∙ ap₂ (λ ws rs. map (λ p. Ok p) (where_parted k ws (filter_map ok_of rs))) (sym ways-are) (sym before-is)

    module-low : filter_map err_of outcomes_before ≡ [] → filter_map err_of outcomes_after ≡ [] → All IsLow (where_parted k (externals_by ls all x.0) (filter_map ok_of outcomes_before))
    module-low none none_after =
        subst (λ rs. All IsLow (where_parted k (externals_by ls all x.0) (filter_map ok_of rs))) (sym before-is)
        (subst (λ ws. All IsLow (where_parted k ws (filter_map ok_of (map (taken (λ t. t.place) j refs (weak_pairs x.0)) (enumerate_from 1 refs))))) (sym ways-are)
        (outcomes-low k j refs (weak_pairs x.0) (ap (filter_map err_of) (sym before-is) ∙ none) (ap (filter_map err_of) (sym after-is) ∙ none_after)))

  -- ---- all modules

  abbrev faults_before : ℕ → List PlacedModule → List DeriveFault
  faults_before s xs = flat_map (λ m. filter_map err_of (external_places (seen_publics all m.1) (weak_given all []) m.0 m.1.0)) (enumerate_from s xs)

  abbrev places_before : ℕ → List PlacedModule → List Places
  places_before s xs = map (with_externals all (weak_given all [])) (enumerate_from s xs)

  abbrev faults_after : ℕ → List PlacedModule → List DeriveFault
  faults_after s xs = flat_map (λ m. filter_map err_of (external_places (seen_publics lifted m.1) (weak_given lifted []) m.0 m.1.0)) (enumerate_from s (map lift xs))

  abbrev places_after : ℕ → List PlacedModule → List Places
  places_after s xs = map (with_externals lifted (weak_given lifted [])) (enumerate_from s (map lift xs))

  abbrev AreLowIn : Places → Type 0
  AreLowIn pl = All (λ p. p.address < 2 ^ 32) pl.externals

  record AreRaised (s : ℕ) (xs : List PlacedModule) : Type 0 where
    none : faults_after s xs ≡ []
    places : places_after s xs ≡ all_moved k (map (movers_by ls all) xs) (places_before s xs)

  modules-raised : (xs : List PlacedModule) (s : ℕ) → ((n : ℕ) → slice_get xs n ≡ slice_get all (s + n)) → All Stands xs → faults_before s xs ≡ []
      → All AreLowIn (all_moved k (map (movers_by ls all) xs) (places_before s xs)) → AreRaised s xs
  modules-raised [] s g h none low = record { none = refl; places = refl }
  modules-raised (x ∷ xs) s g h none low =
      let first : s ≡ s + 0 = omega arith in
      let here : slice_get all s ≡ Some x = ap (slice_get all) first ∙ sym (g 0) in
      let next : (n : ℕ) → s + suc n ≡ s + 1 + n = λ n. omega arith in
      let own = filter_map err_of (external_places (seen_publics all x) (weak_given all []) s x.0) in
      let high = moved k (movers_by ls all x) (with_externals all (weak_given all []) (s, x)) in
      let others = all_moved k (map (movers_by ls all) xs) (places_before (s + 1) xs) in
      let raised-here = module-raised s x here (All-head Stands x xs h) (nil-left own (faults_before (s + 1) xs) none) (All-head AreLowIn high others low) in
      let rest = modules-raised xs (s + 1) (λ n. g (suc n) ∙ ap (slice_get all) (next n)) (All-tail Stands x xs h) (nil-right own (faults_before (s + 1) xs) none) (All-tail AreLowIn high others low) in
      let oks = oks-only high.externals in
      record {
        none = ap₂ (λ a b. a ++ b) (ap (filter_map err_of) raised-here ∙ oks.0) rest.none;
        places = ap₂ (λ (ps : List Placed) pls. with_list (lift x).1 ps ∷ pls) (ap (filter_map ok_of) raised-here ∙ oks.1) rest.places;
      }

  modules-low : (xs : List PlacedModule) (s : ℕ) → ((n : ℕ) → slice_get xs n ≡ slice_get all (s + n)) → All Stands xs → faults_before s xs ≡ [] → faults_after s xs ≡ []
      → All AreLowIn (all_moved k (map (movers_by ls all) xs) (places_before s xs))
  modules-low [] s g h none none_after = All-nil AreLowIn
  modules-low (x ∷ xs) s g h none none_after =
      let first : s ≡ s + 0 = omega arith in
      let here : slice_get all s ≡ Some x = ap (slice_get all) first ∙ sym (g 0) in
      let next : (n : ℕ) → s + suc n ≡ s + 1 + n = λ n. omega arith in
      let own = filter_map err_of (external_places (seen_publics all x) (weak_given all []) s x.0) in
      let own_after = filter_map err_of (external_places (seen_publics lifted (lift x)) (weak_given lifted []) s x.0) in
      All-cons AreLowIn (moved k (movers_by ls all x) (with_externals all (weak_given all []) (s, x))) (all_moved k (map (movers_by ls all) xs) (places_before (s + 1) xs))
      (module-low s x here (All-head Stands x xs h) (nil-left own (faults_before (s + 1) xs) none) (nil-left own_after (faults_after (s + 1) xs) none_after))
      (modules-low xs (s + 1) (λ n. g (suc n) ∙ ap (slice_get all) (next n)) (All-tail Stands x xs h) (nil-right own (faults_before (s + 1) xs) none) (nil-right own_after (faults_after (s + 1) xs) none_after))

-- ---- the law

with-bases : (ls : List Named) (ms : List (List Rec)) (pls : List Places) → AllZip IsPlaceOf ms pls → with_bases ls ms ≡ bases_by ls (zip ms pls)
with-bases ls [] pls h = refl
with-bases ls (m ∷ ms) [] h = absurd h
with-bases ls (m ∷ ms) (p ∷ pls) h = ap (λ bs. (m, bases_in ls m) ∷ bs) (with-bases ls ms pls h.1)

movers-of : (ls : List Named) (all xs : List PlacedModule) → map (movers_in (bases_by ls all)) (map (based_by ls) xs) ≡ map (movers_by ls all) xs
movers-of ls all [] = refl
movers-of ls all (x ∷ xs) = ap (λ mvs. movers_by ls all x ∷ mvs) (movers-of ls all xs)

zip-raised : (k : ℕ) (ls : List Named) (all : List PlacedModule) (ms : List (List Rec)) (pls : List Places) → AllZip IsPlaceOf ms pls
    → zip ms (all_moved k (map (movers_by ls all) (zip ms pls)) pls) ≡ map (raised_by k ls all) (zip ms pls)
zip-raised k ls all [] pls h = refl
zip-raised k ls all (m ∷ ms) [] h = absurd h
zip-raised k ls all (m ∷ ms) (p ∷ pls) h = ap (λ xs. raised_by k ls all (m, p) ∷ xs) (zip-raised k ls all ms pls h.1)

all-stand : (ms : List (List Rec)) (pls : List Places) → All (ModuleHolds profile_limits) ms → AllZip IsPlaceOf ms pls → All Stands (zip ms pls)
all-stand [] pls h own = All-nil Stands
all-stand (m ∷ ms) [] h own = absurd own
all-stand (m ∷ ms) (p ∷ pls) h own =
    All-cons Stands (m, p) (zip ms pls) (All-head (ModuleHolds profile_limits) m ms h, own.0) (all-stand ms pls (All-tail (ModuleHolds profile_limits) m ms h) own.1)

abbrev value-or : List Places → Result (List Places) DeriveFault → List Places
value-or d (Ok a) = a
value-or d (Err e) = d

no-fault : (es : List DeriveFault) (ns pls : List Places) → unless_fault es ns ≡ Ok pls → (es ≡ []) × (ns ≡ pls)
no-fault [] ns pls h = (refl, ap (value-or ns) h)
no-fault (e ∷ es) ns pls h = absurd (false≢true (ap is_ok h))

module _ (k : ℕ) (ms : List (List Rec)) (pls placements : List Places) (mvs : List Movers) (hold : All (ModuleHolds profile_limits) ms) (own : AllZip IsPlaceOf ms pls)
    (movers : AreMovers ms (zip ms pls) mvs) (at : derived_at ms pls ≡ Ok placements) where
  abbrev all : List PlacedModule
  all = zip ms pls

  abbrev ls : List Named
  ls = lows all

  abbrev found : List Places
  found = map (with_externals all (weak_given all [])) (enumerate_from 0 all)

  stand : All Stands all
  stand = all-stand ms pls hold own

  same : mvs ≡ map (movers_by ls all) all
  same = movers ∙ ap all_movers (with-bases ls ms pls own) ∙ movers-of ls all all

  parts : (derive_faults all (weak_given all []) ≡ []) × (found ≡ placements)
  parts = no-fault (derive_faults all (weak_given all [])) found placements at

  start : (n : ℕ) → slice_get all n ≡ slice_get all (0 + n)
  start n = let e : n ≡ 0 + n = omega arith in ap (slice_get all) e

  places-are : zip ms (all_moved k mvs pls) ≡ all_raised k ls all
  places-are = ap (λ ws. zip ms (all_moved k ws pls)) same ∙ zip-raised k ls all ms pls own

  moved-are : all_moved k (map (movers_by ls all) all) found ≡ all_moved k mvs placements
  moved-are = ap₂ (all_moved k) (sym same) parts.1

  to-moved : AreLow (all_moved k mvs placements) → derived_at ms (all_moved k mvs pls) ≡ Ok (all_moved k mvs placements)
  to-moved low =
      let r = modules-raised k ls all stand all 0 start stand parts.0 (subst AreLow (sym moved-are) low) in
      ap (λ q. derived q (with_weak q [])) places-are ∙ ap₂ (λ fs ps. unless_fault fs ps) r.none r.places ∙ ap (λ ps. Ok ps) moved-are

  to-low : (found_after : List Places) → derived_at ms (all_moved k mvs pls) ≡ Ok found_after → AreLow (all_moved k mvs placements)
  to-low found_after h =
      let up = all_raised k ls all in
      let after = no-fault (derive_faults up (weak_given up [])) (map (with_externals up (weak_given up [])) (enumerate_from 0 up)) found_after (ap (λ q. derived q (with_weak q [])) (sym places-are) ∙ h) in
      subst AreLow moved-are (modules-low k ls all stand all 0 start stand parts.0 after.0)

pub externals-move : ExternalsMove
externals-move k ms pls placements mvs hold own movers at =
    (to-low k ms pls placements mvs hold own movers at (all_moved k mvs placements), to-moved k ms pls placements mvs hold own movers at)

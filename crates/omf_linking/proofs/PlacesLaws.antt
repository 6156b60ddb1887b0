-- The places that a text gives modules, entry by entry.
use Rattle.std.proofs.Common.{◌≡◌, ℕ, zero, suc, ◌+◌, ◌<◌, ◌≤◌, List, [], ◌∷◌, ◌++◌, length, drop, get_or, refl, sym, ap, ap₂, ◌∙◌, append_assoc, append-nil, subst, arith}
use Rattle.std.specs.Prelude.{map, filter_map, flat_map, zip, option_to_list, Option, None, Some, Result, Ok, Err}
use Rattle.std.specs.List.{AllZip, enumerate_from}
use Rattle.std.proofs.Math.Seq.{drop-nil}
use Rattle.std.proofs.lemmas.List.{length-map}
use Rattle.std.proofs.lemmas.List.FromFn.{length-enumerate_from}
use Rattle.omf_check.specs.Module.{Module, records_in, typed_modules}
use Rattle.omf_check.specs.Tables.{segments, groups}
use Rattle.omf_check.specs.WellFormed.{recs}
use Rattle.omf_placement.specs.Derivation.{IsPlaceOf}
use Rattle.omf_placement.specs.Placement.{Places}
use Rattle.omf_placement.specs.declared.frame.Frame.{Frame}
use Rattle.omf_placement.specs.declared.frame.Placed.{Placed}
use Rattle.omf_records.specs.Inner.Seen.{map_ok}
use Rattle.omf_records.specs.Values.{Rec}
use Rattle.omf_reloc.specs.declared.fault.Kind.{Kind}
use Rattle.omf_reloc.specs.declared.fault.Kind.TheVariants as kinds
use Rattle.omf_linking.specs.Locator.Items.{Item, items_after}
use Rattle.omf_linking.specs.Locator.LinkEntries.{link_lines}
use Rattle.omf_linking.specs.Locator.Sparse.{Sparse, bad_lines, sparse, sparse_all, sparse_of, unless_bad}
use Rattle.omf_linking.specs.Placing.{IsOutcome, all_given, by_sparse, frame_given, frames_given, in_front, linked, or_missing, placed_by, places_given, places_of, with_segments}
use Rattle.omf_linking.specs.declared.fault.LinkFault.{LinkFault}
use Rattle.omf_linking.specs.declared.fault.LinkFault.TheVariants as fault
use Rattle.omf_linking.specs.declared.locator.fault.LocatorFault.{LocatorFault}
use Rattle.omf_linking.proofs.SparseLaws.{length_count}

-- ---- what is left of a list

pub next-of : {A : Type 0} (xs : List A) (j : ℕ) (x : A) → x ≡ get_or xs j x → j < length xs → drop j xs ≡ x ∷ drop (j + 1) xs
next-of [] j x e h = absurd (omega (arith, h))
next-of (y ∷ xs) zero x e h = ap (λ z. z ∷ xs) (sym e)
next-of (y ∷ xs) (suc j) x e h =
    let same : suc (j + 1) ≡ suc j + 1 = omega arith in
    next-of xs j x e (omega (arith, h)) ∙ ap (λ n. x ∷ drop n (y ∷ xs)) same

pub next-at : {A : Type 0} (xs : List A) (j : ℕ) (d : A) → j < length xs → drop j xs ≡ get_or xs j d ∷ drop (j + 1) xs
next-at [] j d h = absurd (omega (arith, h))
next-at (y ∷ xs) zero d h = refl
next-at (y ∷ xs) (suc j) d h =
    let same : suc (j + 1) ≡ suc j + 1 = omega arith in
    next-at xs j d (omega (arith, h)) ∙ ap (λ n. get_or xs j d ∷ drop n (y ∷ xs)) same

pub none-of : {A : Type 0} (xs : List A) (j : ℕ) → length xs ≤ j → drop j xs ≡ []
none-of [] j h = drop-nil j
none-of (x ∷ xs) zero h = absurd (omega (arith, h))
none-of (x ∷ xs) (suc j) h = none-of xs j (omega (arith, h))

-- ---- a table whose first entries are taken

module _ {A : Type 0} where
  abbrev pub with_front : List A → Result (List A) ℕ → Result (List A) ℕ
  with_front xs r = map_ok (λ ys. xs ++ ys) r

  pub none-taken : (r : Result (List A) ℕ) → with_front [] r ≡ r
  none-taken (Ok ys) = refl
  none-taken (Err i) = refl

  one-taken : (xs : List A) (a : A) (r : Result (List A) ℕ) → with_front xs (map_ok (λ ys. a ∷ ys) r) ≡ with_front (xs ++ a ∷ []) r
  one-taken xs a (Ok ys) = ap Ok (sym (append_assoc xs (a ∷ []) ys))
  one-taken xs a (Err i) = refl

  pub more-taken : (xs ys : List A) (a : A) (i : ℕ) (os rest : List (Option A)) → os ≡ Some a ∷ rest → ys ≡ xs ++ a ∷ [] → with_front xs (all_given i os) ≡ with_front ys (all_given (i + 1) rest)
  more-taken xs ys a i os rest e f = ap (λ t. with_front xs (all_given i t)) e ∙ one-taken xs a (all_given (i + 1) rest) ∙ ap (λ t. with_front t (all_given (i + 1) rest)) (sym f)

  pub none-there : (xs : List A) (i : ℕ) (os rest : List (Option A)) → os ≡ None ∷ rest → with_front xs (all_given i os) ≡ Err i
  none-there xs i os rest e = ap (λ t. with_front xs (all_given i t)) e

  pub all-taken : (xs : List A) (i : ℕ) (os : List (Option A)) → os ≡ [] → with_front xs (all_given i os) ≡ Ok xs
  all-taken xs i os e = ap (λ t. with_front xs (all_given i t)) e ∙ ap Ok (append-nil xs)

-- the frames of the groups from an index on
module _ (m : List Rec) (ps : List Placed) where
  abbrev pub frames_left : ℕ → List (Option (Option Frame)) → List (Option Frame)
  frames_left i gs = map (frame_given m ps) (enumerate_from i gs)

  pub next-frame : (gs : List (Option (Option Frame))) (k : ℕ) → k < length gs → frames_left (k + 1) (drop k gs) ≡ frame_given m ps (k + 1, get_or gs k None) ∷ frames_left (k + 1 + 1) (drop (k + 1) gs)
  next-frame gs k h = ap (frames_left (k + 1)) (next-at gs k None h)

  pub no-frame : (gs : List (Option (Option Frame))) (k : ℕ) → length gs ≤ k → frames_left (k + 1) (drop k gs) ≡ []
  no-frame gs k h = ap (frames_left (k + 1)) (none-of gs k h)

-- a module with frames for its first groups, and those of the others
abbrev pub framed : ℕ → List Rec → Places → ℕ → List (Option (Option Frame)) → Result Places LinkFault
framed j m pl i gs = map_ok (placed_by pl.segments) (or_missing j kinds.Group (with_front pl.groups (all_given i (frames_left m pl.segments i gs))))

-- ---- as many entries

nat-inner : {X : Type 0} (p q : X) → ◌≡◌ {A = Result X ℕ} (Ok p) (Ok q) → p ≡ q
nat-inner p q h = cc

one-longer : {A : Type 0} (a : A) (r : Result (List A) ℕ) (xs : List A) (n : ℕ) → ((ys : List A) → r ≡ Ok ys → length ys ≡ n) → map_ok (λ ys. a ∷ ys) r ≡ Ok xs → length xs ≡ suc n
one-longer a (Ok ys) xs n h e = sym (ap length (nat-inner (a ∷ ys) xs e)) ∙ ap suc (h ys refl)
one-longer a (Err k) xs n h e = absurd cc

length-of : {A : Type 0} (i : ℕ) (os : List (Option A)) (xs : List A) → all_given i os ≡ Ok xs → length xs ≡ length os
length-of i [] xs e = sym (ap length (nat-inner [] xs e))
length-of i (None ∷ os) xs e = absurd cc
length-of i (Some a ∷ os) xs e = one-longer a (all_given (i + 1) os) xs (length os) (λ ys g. length-of (i + 1) os ys g) e

-- the tables of a module with all its entries
pub record HasTables (m : List Rec) (s : Sparse) : Type 0 where
  pub segments : length s.segments ≡ length (segments m)
  pub groups : length s.groups ≡ length (groups m)

sparse-has : (items : List Item) (j : ℕ) (m : List Rec) → HasTables m (sparse_of items (j, m))
sparse-has items j m = record {
  segments = length-map _ _ ∙ length_count 1 (length (segments m));
  groups = length-map _ _ ∙ length_count 1 (length (groups m));
}

all-have : (items : List Item) (j : ℕ) (ms : List (List Rec)) → AllZip HasTables ms (map (sparse_of items) (enumerate_from j ms))
all-have items j [] = tt
all-have items j (m ∷ ms) = (sparse-has items j m, all-have items (j + 1) ms)

pub sparse-tables : (ms : List (List Rec)) (items : List Item) → AllZip HasTables ms (sparse_all ms items)
sparse-tables ms items = all-have items 0 ms

ok-inner : {X : Type 0} (p q : X) → ◌≡◌ {A = Result X LinkFault} (Ok p) (Ok q) → p ≡ q
ok-inner p q h = cc

missing-ok : {A : Type 0} (j : ℕ) (k : Kind) (r : Result A ℕ) (a : A) → or_missing j k r ≡ Ok a → r ≡ Ok a
missing-ok j k (Ok b) a e = ap Ok (ok-inner b a e)
missing-ok j k (Err i) a e = absurd cc

has-places : (j : ℕ) (m : List Rec) (s : Sparse) (pl : Places) → HasTables m s → places_given j m s ≡ Ok pl → IsPlaceOf m pl
has-places j m s pl h e = by (or_missing j kinds.Segment (all_given 1 s.segments)) refl e
  where
    fill : (ps : List Placed) → all_given 1 s.segments ≡ Ok ps → (r : Result (List Frame) LinkFault) → or_missing j kinds.Group (frames_given m ps s.groups) ≡ r → map_ok (placed_by ps) r ≡ Ok pl → IsPlaceOf m pl
    fill ps p (Ok fs) g f =
        let same : placed_by ps fs ≡ pl = ok-inner (placed_by ps fs) pl f in
        let frames = length-of 1 (map (frame_given m ps) (enumerate_from 1 s.groups)) fs (missing-ok j kinds.Group (frames_given m ps s.groups) fs g) in
        record {
          segments = sym (ap (λ (q : Places). length q.segments) same) ∙ length-of 1 s.segments ps p ∙ h.segments;
          groups = sym (ap (λ (q : Places). length q.groups) same) ∙ frames ∙ length-map (enumerate_from 1 s.groups) (frame_given m ps) ∙ length-enumerate_from 1 s.groups ∙ h.groups;
        }
    fill ps p (Err x) g f = absurd cc

    by : (r : Result (List Placed) LinkFault) → or_missing j kinds.Segment (all_given 1 s.segments) ≡ r → with_segments j m s.groups r ≡ Ok pl → IsPlaceOf m pl
    by (Ok ps) g f = fill ps (missing-ok j kinds.Segment (all_given 1 s.segments) ps g) (or_missing j kinds.Group (frames_given m ps s.groups)) refl f
    by (Err x) g f = absurd cc

more-have : (j : ℕ) (m : List Rec) (ms : List (List Rec)) (s : Sparse) (r : Result Places LinkFault) (q : Result (List Places) LinkFault) (pls : List Places) → HasTables m s → places_given j m s ≡ r
    → ((more : List Places) → q ≡ Ok more → AllZip IsPlaceOf ms more) → in_front r q ≡ Ok pls → AllZip IsPlaceOf (m ∷ ms) pls
more-have j m ms s (Ok pl) (Ok more) pls h e k f = subst (AllZip IsPlaceOf (m ∷ ms)) (ok-inner (pl ∷ more) pls f) (has-places j m s pl h e, k more refl)
more-have j m ms s (Ok pl) (Err x) pls h e k f = absurd cc
more-have j m ms s (Err x) q pls h e k f = absurd cc

pub all-have-places : (j : ℕ) (ms : List (List Rec)) (ss : List Sparse) (pls : List Places) → AllZip HasTables ms ss → places_of j (zip ms ss) ≡ Ok pls → AllZip IsPlaceOf ms pls
all-have-places j [] [] pls h e = subst (AllZip IsPlaceOf []) (ok-inner [] pls e) tt
all-have-places j [] (s ∷ ss) pls h e = absurd h
all-have-places j (m ∷ ms) [] pls h e = absurd h
all-have-places j (m ∷ ms) (s ∷ ss) pls h e = more-have j m ms s (places_given j m s) (places_of (j + 1) (zip ms ss)) pls h.0 refl (λ more g. all-have-places (j + 1) ms ss more h.1 g) e

-- ---- the places of the modules so far

abbrev pub after : List Places → Result (List Places) LinkFault → Result (List Places) LinkFault
after xs r = map_ok (λ ys. xs ++ ys) r

pub none-placed : (r : Result (List Places) LinkFault) → after [] r ≡ r
none-placed (Ok ys) = refl
none-placed (Err f) = refl

one-placed : (xs : List Places) (pl : Places) (r : Result (List Places) LinkFault) → after xs (in_front (Ok pl) r) ≡ after (xs ++ pl ∷ []) r
one-placed xs pl (Ok ys) = ap Ok (sym (append_assoc xs (pl ∷ []) ys))
one-placed xs pl (Err f) = refl

module _ (ms : List Module) (ss : List Sparse) (j : ℕ) (m : Module) (s : Sparse) (m-is : m ≡ get_or ms j m) (s-is : s ≡ get_or ss j s) (h : j < length ms) (each : length ss ≡ length ms) where
  next-pair : zip (typed_modules (drop j ms)) (drop j ss) ≡ (recs (records_in m.bytes), s) ∷ zip (typed_modules (drop (j + 1) ms)) (drop (j + 1) ss)
  next-pair = ap₂ (λ (a : List Module) (b : List Sparse). zip (typed_modules a) b) (next-of ms j m m-is h) (next-of ss j s s-is (omega (arith, h, each)))

  pub more-placed : (xs ys : List Places) (pl : Places) → places_given j (recs (records_in m.bytes)) s ≡ Ok pl → ys ≡ xs ++ pl ∷ []
      → after xs (places_of j (zip (typed_modules (drop j ms)) (drop j ss))) ≡ after ys (places_of (j + 1) (zip (typed_modules (drop (j + 1) ms)) (drop (j + 1) ss)))
  more-placed xs ys pl e f =
      let rest = places_of (j + 1) (zip (typed_modules (drop (j + 1) ms)) (drop (j + 1) ss)) in
      ap (λ t. after xs (places_of j t)) next-pair ∙ ap (λ r. after xs (in_front r rest)) e ∙ one-placed xs pl rest ∙ ap (λ t. after t rest) (sym f)

  pub not-placed : (xs : List Places) (f : LinkFault) → places_given j (recs (records_in m.bytes)) s ≡ Err f → after xs (places_of j (zip (typed_modules (drop j ms)) (drop j ss))) ≡ Err f
  not-placed xs f e = ap (λ t. after xs (places_of j t)) next-pair ∙ ap (λ r. after xs (in_front r (places_of (j + 1) (zip (typed_modules (drop (j + 1) ms)) (drop (j + 1) ss))))) e

module _ (ms : List Module) (ss : List Sparse) (j : ℕ) (m : Module) (s : Sparse) (m-is : m ≡ get_or ms j m) (s-is : s ≡ get_or ss j s) (h : j < length ms) (each : length ss ≡ length ms) (xs : List Places) where
  pub not-placed-outcome : (f : LinkFault) (all : Result (List Places) LinkFault) → IsOutcome {A = Places} (places_given j (recs (records_in m.bytes)) s) (Err f)
      → after xs (places_of j (zip (typed_modules (drop j ms)) (drop j ss))) ≡ all → IsOutcome {A = List Places} all (Err f)
  not-placed-outcome fault.Memory all o e = tt
  not-placed-outcome fault.Read all o e = sym e ∙ not-placed ms ss j m s m-is s-is h each xs fault.Read o
  not-placed-outcome (fault.Refused k why at) all o e = sym e ∙ not-placed ms ss j m s m-is s-is h each xs (fault.Refused k why at) o
  not-placed-outcome (fault.NoText at) all o e = sym e ∙ not-placed ms ss j m s m-is s-is h each xs (fault.NoText at) o
  not-placed-outcome fault.NoModules all o e = sym e ∙ not-placed ms ss j m s m-is s-is h each xs fault.NoModules o
  not-placed-outcome (fault.Line n why) all o e = sym e ∙ not-placed ms ss j m s m-is s-is h each xs (fault.Line n why) o
  not-placed-outcome (fault.External f) all o e = sym e ∙ not-placed ms ss j m s m-is s-is h each xs (fault.External f) o
  not-placed-outcome (fault.Reach k f) all o e = sym e ∙ not-placed ms ss j m s m-is s-is h each xs (fault.Reach k f) o
  not-placed-outcome (fault.Starts a b) all o e = sym e ∙ not-placed ms ss j m s m-is s-is h each xs (fault.Starts a b) o
  not-placed-outcome (fault.Space f) all o e = sym e ∙ not-placed ms ss j m s m-is s-is h each xs (fault.Space f) o

pub all-placed : (ms : List Module) (ss : List Sparse) (j : ℕ) (xs : List Places) → length ms ≤ j → after xs (places_of j (zip (typed_modules (drop j ms)) (drop j ss))) ≡ Ok xs
all-placed ms ss j xs h = ap (λ (t : List Module). after xs (places_of j (zip (typed_modules t) (drop j ss)))) (none-of ms j h) ∙ ap Ok (append-nil xs)

-- ---- the externals so far

module _ {A B : Type 0} (f : A → Option B) (x : A) (rest : List A) where
  picked : (o : Option B) → f x ≡ o → filter_map f (x ∷ rest) ≡ option_to_list (f x) ++ filter_map f rest
  picked None k = rw k refl
  picked (Some y) k = rw k refl

  pub more-picked : (old new : List B) (left : List A) (all : List B) → left ≡ x ∷ rest → new ≡ old ++ option_to_list (f x) → old ++ filter_map f left ≡ all → new ++ filter_map f rest ≡ all
  more-picked old new left all e g h =
      ap (λ t. t ++ filter_map f rest) g ∙ append_assoc old (option_to_list (f x)) (filter_map f rest) ∙ ap (λ t. old ++ t) (sym (ap (filter_map f) e ∙ picked (f x) refl)) ∙ h

pub more-mapped : {A B : Type 0} (f : A → List B) (x : A) (rest left : List A) (old new all : List B) → left ≡ x ∷ rest → new ≡ old ++ f x → old ++ flat_map f left ≡ all → new ++ flat_map f rest ≡ all
more-mapped f x rest left old new all e g h =
    ap (λ t. t ++ flat_map f rest) g ∙ append_assoc old (f x) (flat_map f rest) ∙ ap (λ t. old ++ t) (sym (ap (flat_map f) e)) ∙ h

pub more-made : {A B : Type 0} (f : A → B) (x : A) (rest left : List A) (old new all : List B) → left ≡ x ∷ rest → new ≡ old ++ f x ∷ [] → old ++ map f left ≡ all → new ++ map f rest ≡ all
more-made f x rest left old new all e g h =
    ap (λ t. t ++ map f rest) g ∙ append_assoc old (f x ∷ []) (map f rest) ∙ ap (λ t. old ++ t) (sym (ap (map f) e)) ∙ h

-- ---- the text of modules

pub some_linked : (ms : List Module) (text : List ℕ) → 0 < length ms → linked (typed_modules ms) text ≡ by_sparse (typed_modules ms) (sparse (typed_modules ms) text)
some_linked [] text h = absurd (omega (arith, h))
some_linked (m ∷ ms) text h = refl

-- what a text gives has all tables of the modules
of-items : (ms : List (List Rec)) (r : Result (List Item) LocatorFault) (ss : List Sparse) → map_ok (sparse_all ms) r ≡ Ok ss → AllZip HasTables ms ss
of-items ms (Ok items) ss e = subst (AllZip HasTables ms) (same (sparse_all ms items) ss e) (sparse-tables ms items)
  where
    same : {X : Type 0} (p q : X) → ◌≡◌ {A = Result X LocatorFault} (Ok p) (Ok q) → p ≡ q
    same p q h = cc
of-items ms (Err f) ss e = absurd cc

of-lines : (ms : List (List Rec)) (ns : List ℕ) (r : Result (List Item) LocatorFault) (ss : List Sparse) → unless_bad ns (map_ok (sparse_all ms) r) ≡ Ok ss → AllZip HasTables ms ss
of-lines ms [] r ss e = of-items ms r ss e
of-lines ms (n ∷ ns) r ss e = absurd cc

pub text-tables : (ms : List (List Rec)) (text : List ℕ) (ss : List Sparse) → sparse ms text ≡ Ok ss → AllZip HasTables ms ss
text-tables ms text ss e = of-lines ms (bad_lines text) (items_after ms [] (link_lines text)) ss e

-- The pairs of weak externals, and the entries that they make, one after another.
use Rattle.std.proofs.Common.{◌≡◌, ℕ, zero, suc, ◌+◌, ◌-◌, ◌*◌, ◌<◌, ◌≤◌, List, [], ◌∷◌, ◌++◌, length, drop, Bool, true, false, cond, refl, sym, ap, ap₂, ◌∙◌, append-nil, append_assoc, arith, get_or}
use Rattle.std.specs.Prelude.{filter_map, flat_map, nat_lt, zip, Option, Some, None, Result, unwrap_or}
use Rattle.std.specs.List.{enumerate_from}
use Rattle.std.proofs.Math.Seq.{drop-nil}
use Rattle.omf_frame.specs.Framing.{Raw, raw_bytes}
use Rattle.omf_records.specs.Inner.Reading.{typed}
use Rattle.omf_records.specs.Values.{Rec}
use Rattle.omf_check.specs.Listed.{placed_from}
use Rattle.omf_check.specs.Module.{Module, records_in, typed_modules}
use Rattle.omf_check.specs.Tables.{entry, externals}
use Rattle.omf_check.specs.WellFormed.{recs}
use Rattle.omf_placement.specs.declared.several.fault.DeriveFault.{DeriveFault}
use Rattle.omf_placement.specs.declared.several.given.Given.{Given}
use Rattle.omf_placement.specs.declared.frame.Placed.{Placed}
use Rattle.omf_placement.specs.Derive.{PlacedModule, PlacedPublic, named_externals, seen_publics}
use Rattle.omf_placement.specs.Inner.Derived.{external_place, external_places}
use Rattle.omf_placement.specs.Inner.Pairing.{front_index}
use Rattle.omf_placement.specs.Placement.{Places}
use Rattle.omf_placement.specs.Weak.{indices, pair_given, paired, pairs_in, weak_in, weak_pairs}
use Rattle.omf_placement.proofs.DeriveLaws.{nil-left, nil-right}
use Rattle.omf_placement.proofs.LinkageLaws.{next-outcome, none_from, outcomes_from}

abbrev pub at_front : ℕ → ℕ → Option (ℕ × ℕ)
at_front index size = Some (index, size)

first_is : (a b c d : ℕ) → at_front a b ≡ at_front c d → a ≡ c
first_is a b c d e = ap (λ (o : Option (ℕ × ℕ)). (unwrap_or o (0, 0)).0) e

second_is : (a b c d : ℕ) → at_front a b ≡ at_front c d → b ≡ d
second_is a b c d e = ap (λ (o : Option (ℕ × ℕ)). (unwrap_or o (0, 0)).1) e

abbrev from_index : List ℕ → ℕ → ℕ → List ℕ
from_index bytes index size = index ∷ indices (drop size bytes)

same_from : (bytes : List ℕ) (a b index size : ℕ) → at_front index size ≡ at_front a b → from_index bytes a b ≡ from_index bytes index size
same_from bytes a b index size e = ap₂ (from_index bytes) (sym (first_is index size a b e)) (sym (second_is index size a b e))

last_one : (a index size : ℕ) (b : Bool) → at_front index size ≡ cond b (at_front a 1) None → cond b (a ∷ []) [] ≡ from_index (a ∷ []) index size
last_one a index size true e = same_from (a ∷ []) a 1 index size e
last_one a index size false e = absurd cc

one_or_two : (a c : ℕ) (rest : List ℕ) (two index size : ℕ) (b : Bool) → at_front index size ≡ cond b (at_front a 1) (at_front two 2)
    → cond b (a ∷ indices (c ∷ rest)) (two ∷ indices rest) ≡ from_index (a ∷ c ∷ rest) index size
one_or_two a c rest two index size true e = same_from (a ∷ c ∷ rest) a 1 index size e
one_or_two a c rest two index size false e = same_from (a ∷ c ∷ rest) two 2 index size e

pub next_index : (bytes : List ℕ) (index size : ℕ) → at_front index size ≡ front_index bytes → indices bytes ≡ index ∷ indices (drop size bytes)
next_index [] index size e = absurd cc
next_index (a ∷ []) index size e = last_one a index size (nat_lt a 128) e
next_index (a ∷ c ∷ rest) index size e = one_or_two a c rest ((a - 128) * 256 + c) index size (nat_lt a 128) e

none_here : (a : ℕ) (b : Bool) → None ≡ cond b (at_front a 1) None → cond b (a ∷ []) [] ≡ []
none_here a true e = absurd cc
none_here a false e = refl

never_none : (b : Bool) (x y : ℕ × ℕ) → None ≡ cond b (Some x) (Some y) → ⊥
never_none true x y e = cc
never_none false x y e = cc

pub no_index : (bytes : List ℕ) → None ≡ front_index bytes → indices bytes ≡ []
no_index [] e = refl
no_index (a ∷ []) e = none_here a (nat_lt a 128) e
no_index (a ∷ c ∷ rest) e = absurd (never_none (nat_lt a 128) (a, 1) ((a - 128) * 256 + c, 2) e)

-- The pair at the front, and those of the text after it.
pub next_pair : (bytes : List ℕ) (w d size more : ℕ) → at_front w size ≡ front_index bytes → at_front d more ≡ front_index (drop size bytes)
    → paired (indices bytes) ≡ record { weak = w; substitute = d } ∷ paired (indices (drop more (drop size bytes)))
next_pair bytes w d size more e f = ap paired (next_index bytes w size e ∙ ap (λ is. w ∷ is) (next_index (drop size bytes) d more f))

pub no_pair : (bytes : List ℕ) → None ≡ front_index bytes → paired (indices bytes) ≡ []
no_pair bytes e = ap paired (no_index bytes e)

pub half_pair : (bytes : List ℕ) (w size : ℕ) → at_front w size ≡ front_index bytes → None ≡ front_index (drop size bytes) → paired (indices bytes) ≡ []
half_pair bytes w size e f = ap paired (next_index bytes w size e ∙ ap (λ is. w ∷ is) (no_index (drop size bytes) f))

-- The pairs of the records with their places.
pub listed_pairs : (number start : ℕ) (rs : List Raw) → flat_map (λ x. pairs_in x.1.contents) (placed_from number start rs) ≡ weak_pairs (recs rs)
listed_pairs number start [] = refl
listed_pairs number start (r ∷ rs) = ap (λ xs. pairs_in (typed r).contents ++ xs) (listed_pairs (number + 1) (start + length (raw_bytes r)) rs)

-- Values so far and those that are left: some more, and none left.
pub entries_more : {A : Type 0} (old new more left rest all : List A) → new ≡ old ++ more → left ≡ more ++ rest → old ++ left ≡ all → new ++ rest ≡ all
entries_more old new more left rest all n f h = ap (λ xs. xs ++ rest) n ∙ append_assoc old more rest ∙ ap (λ xs. old ++ xs) (sym f) ∙ h

pub no_entries : {A : Type 0} (old left all : List A) → left ≡ [] → old ++ left ≡ all → old ≡ all
no_entries old left all e h = sym (append-nil old) ∙ ap (λ xs. old ++ xs) (sym e) ∙ h

pub one_more : {A : Type 0} (old new : List A) (x : A) (left rest all : List A) → new ≡ old ++ x ∷ [] → left ≡ x ∷ rest → old ++ left ≡ all → new ++ rest ≡ all
one_more old new x left rest all n f h = entries_more old new (x ∷ []) left rest all n f h

-- One outcome more, and no outcome left.
module _ (among : Bool → List PlacedPublic) (given : List Given) (j : ℕ) (m : List Rec) where
  pub one_outcome : (i : ℕ) (x : List ℕ × Bool) → 1 ≤ i → entry (named_externals m) i ≡ Some x → (old new : List (Result Placed DeriveFault)) → new ≡ old ++ external_place (among x.1) given j i x.0 ∷ []
      → old ++ outcomes_from among given j m i ≡ external_places among given j m → new ++ outcomes_from among given j m (i + 1) ≡ external_places among given j m
  one_outcome i x low e old new n h = one_more old new (external_place (among x.1) given j i x.0) _ _ _ n (next-outcome among given j m i x low e) h

  pub all_outcomes : (old : List (Result Placed DeriveFault)) (i : ℕ) → length (externals m) + 1 ≤ i → old ++ outcomes_from among given j m i ≡ external_places among given j m → old ≡ external_places among given j m
  all_outcomes old i l h = no_entries old _ _ (none_from among given j m i l) h

-- Modules without pairs have no entries.
pub none_given : (ms : List PlacedModule) (given : List Given) (k : ℕ) (ns : List (List Rec)) (pls : List Places) → flat_map weak_pairs ns ≡ [] → flat_map (weak_in ms given) (enumerate_from k (zip ns pls)) ≡ []
none_given ms given k [] pls h = refl
none_given ms given k (n ∷ ns) [] h = refl
none_given ms given k (n ∷ ns) (pl ∷ pls) h =
    ap₂ (λ ps es. filter_map (pair_given k (external_places (seen_publics ms (n, pl)) given k n)) ps ++ es) (nil-left (weak_pairs n) (flat_map weak_pairs ns) h)
    (none_given ms given (k + 1) ns pls (nil-right (weak_pairs n) (flat_map weak_pairs ns) h))

-- The next module, and none.
pub next_one : (ms : List Module) (j : ℕ) (m : Module) → m ≡ get_or ms j m → j < length ms → typed_modules (drop j ms) ≡ recs (records_in m.bytes) ∷ typed_modules (drop (j + 1) ms)
next_one [] j m e h = absurd (omega (arith, h))
next_one (x ∷ ms) zero m e h = ap (λ (y : Module). recs (records_in y.bytes) ∷ typed_modules ms) (sym e)
next_one (x ∷ ms) (suc j) m e h =
    let same : suc (j + 1) ≡ suc j + 1 = omega arith in
    next_one ms j m e (omega (arith, h)) ∙ ap (λ n. recs (records_in m.bytes) ∷ typed_modules (drop n (x ∷ ms))) same

pub none_left : (ms : List Module) (j : ℕ) → length ms ≤ j → typed_modules (drop j ms) ≡ []
none_left [] j h = ap typed_modules (drop-nil j)
none_left (x ∷ ms) zero h = absurd (omega (arith, h))
none_left (x ∷ ms) (suc j) h = none_left ms j (omega (arith, h))

pub no_items : {A : Type 0} (xs : List A) → length xs ≡ 0 → xs ≡ []
no_items [] e = refl
no_items (x ∷ xs) e = absurd (omega (arith, e))

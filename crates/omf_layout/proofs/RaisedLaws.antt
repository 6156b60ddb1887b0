-- Raised segments: the set of their indices, and the comments that raise them.
use Rattle.std.proofs.Common.{◌≡◌, ℕ, suc, ◌+◌, ◌-◌, ◌*◌, ◌/◌, ◌%◌, ◌<◌, ◌≤◌, arith, get_or, length, take, List, [], ◌∷◌, ◌++◌, Bool, true, false, cond, refl, sym, ap, ap₂, ◌∙◌, inl, inr}
use Rattle.std.specs.BTreeSet.{BTreeSet, Updates, contains}
use Rattle.std.specs.Cmp.{unsigned_tied}
use Rattle.std.specs.List.{cons_option}
use Rattle.std.specs.Ordering.{nat_cmp}
use Rattle.std.specs.Prelude.{◌||◌, ◌==◌, nat_lt, Some, None, ⊤}
use Rattle.std.proofs.Math.Seq.{take-suc}
use Rattle.std.proofs.lemmas.Bool.{cases_Bool, cond-true, cond-false, eq-eqb, le-ltb, ltb-false, ne_eqb}
use Rattle.std.proofs.lemmas.List.Folds.{list_any-append}
use Rattle.omf_frame.specs.Bytes.{is_one_of}
use Rattle.omf_frame.specs.Fields.{index_bytes}
use Rattle.omf_records.specs.Values.{Rec}
use Rattle.omf_check.specs.Tables.{attributes, segments}
use Rattle.omf_layout.specs.Own.Written.{raisings}
use Rattle.omf_layout.specs.Wants.{raised, whole_index}

-- A set of the first elements of a list gets the next one.
or-only : (b a : Bool) → cond b true a ≡ (a || (b || false))
or-only true true = refl
or-only true false = refl
or-only false true = refl
or-only false false = refl

pub one-more : (s n : BTreeSet ℕ) (xs : List ℕ) (i d : ℕ) → i < length xs → Updates nat_cmp s n (get_or xs i d) true → ((q : ℕ) → contains nat_cmp s q ≡ is_one_of (take i xs) q)
    → (q : ℕ) → contains nat_cmp n q ≡ is_one_of (take (i + 1) xs) q
one-more s n xs i d l u h q =
    let k : ℕ = get_or xs i d in
    let e : i + 1 ≡ suc i = omega arith in
    rw e (u.0 q ∙ ap₂ (λ (b a : Bool). cond b true a) (unsigned_tied k q) (h q) ∙ or-only (k == q) (is_one_of (take i xs) q)
    ∙ sym (ap (λ (ys : List ℕ). is_one_of ys q) (take-suc xs i d l) ∙ list_any-append (λ j. j == q) (take i xs) (k ∷ [])))

-- The index that a comment has.
pub index-read : (i : ℕ) → whole_index (index_bytes i) ≡ Some i
index-read i = elim (cases_Bool (nat_lt i 128)) [
  | inl low ↦ ap whole_index (cond-true (nat_lt i 128) (i ∷ []) ((i / 256 + 128) ∷ i % 256 ∷ []) low) ∙ cond-true (nat_lt i 128) (Some i) None low
  | inr high ↦
      let from = ltb-false i 128 high in
      let same : (i / 256 + 128 - 128) * 256 + i % 256 ≡ i = omega arith in
      ap whole_index (cond-false (nat_lt i 128) (i ∷ []) ((i / 256 + 128) ∷ i % 256 ∷ []) high)
      ∙ cond-false (nat_lt (i / 256 + 128) 128) None (Some ((i / 256 + 128 - 128) * 256 + i % 256)) (le-ltb (i / 256 + 128) 128 (omega arith)) ∙ ap (λ n. Some n) same
]

-- The segments that comments raise, by whether each is raised.
abbrev pub raised_from : ℕ → List Bool → List ℕ
raised_from i [] = []
raised_from i (true ∷ bs) = i ∷ raised_from (i + 1) bs
raised_from i (false ∷ bs) = raised_from (i + 1) bs

pub raisings-raise : (i : ℕ) (bs : List Bool) (rs : List Rec) → raised rs ≡ [] → raised (raisings i bs ++ rs) ≡ raised_from i bs
raisings-raise i [] rs h = h
raisings-raise i (true ∷ bs) rs h = ap (λ o. cons_option o [] ++ raised (raisings (i + 1) bs ++ rs)) (index-read i) ∙ ap (λ is. i ∷ is) (raisings-raise (i + 1) bs rs h)
raisings-raise i (false ∷ bs) rs h = raisings-raise (i + 1) bs rs h

-- They define no segments.
pub raisings-segments : (i : ℕ) (bs : List Bool) (rs : List Rec) → segments (raisings i bs ++ rs) ≡ segments rs
raisings-segments i [] rs = refl
raisings-segments i (true ∷ bs) rs = raisings-segments (i + 1) bs rs
raisings-segments i (false ∷ bs) rs = raisings-segments (i + 1) bs rs

pub raisings-attributes : (i : ℕ) (bs : List Bool) (rs : List Rec) → attributes (raisings i bs ++ rs) ≡ attributes rs
raisings-attributes i [] rs = refl
raisings-attributes i (true ∷ bs) rs = raisings-attributes (i + 1) bs rs
raisings-attributes i (false ∷ bs) rs = raisings-attributes (i + 1) bs rs

-- No segment before the first one is among them.
none-before : (i n : ℕ) (bs : List Bool) → n < i → is_one_of (raised_from i bs) n ≡ false
none-before i n [] h = refl
none-before i n (true ∷ bs) h =
    let rest = none-before (i + 1) n bs (omega (arith, h)) in
    ap₂ (λ a b. a || b) (ne_eqb i n (λ e. absurd (omega (arith, h, e)))) rest
none-before i n (false ∷ bs) h = none-before (i + 1) n bs (omega (arith, h))

-- Each segment from an index on is raised by this list if its element says so.
abbrev pub AreRaisedFrom : List ℕ → ℕ → List Bool → Type 0
AreRaisedFrom is i [] = ⊤
AreRaisedFrom is i (b ∷ bs) = (is_one_of is i ≡ b) × AreRaisedFrom is (i + 1) bs

pub all-raised : (is : List ℕ) (i : ℕ) (bs : List Bool) → ((n : ℕ) → i ≤ n → is_one_of is n ≡ is_one_of (raised_from i bs) n) → AreRaisedFrom is i bs
all-raised is i [] h = tt
all-raised is i (true ∷ bs) h = (
  h i (omega arith) ∙ ap (λ b. b || is_one_of (raised_from (i + 1) bs) i) (eq-eqb i i refl),
  all-raised is (i + 1) bs (λ n low.
      h n (omega (arith, low)) ∙ ap (λ b. b || is_one_of (raised_from (i + 1) bs) n) (ne_eqb i n (λ e. absurd (omega (arith, low, e))))),
)
all-raised is i (false ∷ bs) h = (
  h i (omega arith) ∙ none-before (i + 1) i bs (omega arith),
  all-raised is (i + 1) bs (λ n low. h n (omega (arith, low))),
)

-- The record that gives a lowered record is one.
use Rattle.std.proofs.Common.{◌≡◌, ◌⊎◌, inl, inr, Bool, true, false, ℕ, ◌<◌, ◌≤◌, List, [], ◌∷◌, ◌++◌, refl, sym, ap, subst, ◌∙◌, length, arith, append_assoc, length-append}
use Rattle.std.specs.Prelude.{All, IsTrue, not, flat_map, fold}
use Rattle.std.proofs.lemmas.List.{append_cancel_left}
use Rattle.std.proofs.lemmas.List.Elements.{All-head, All-tail}
use Rattle.std.proofs.lemmas.List.Sums.{fold-append}
use Rattle.omf_frame.specs.Framing.{Raw, front_record, is_end, raw_bytes}
use Rattle.omf_frame.specs.declared.fault.Place.{Place}
use Rattle.omf_lowering.specs.Lowering.{Before, IsOrigin, IsWideRecord, replaced, replacement, so_far, start, up_to_next}
use Rattle.omf_lowering.proofs.WideLaws.{front_is}

-- the records are never fewer
never_fewer : (b : Before) (xs : List Raw) → length b.records ≤ length (fold up_to_next b xs).records
never_fewer b [] = omega arith
never_fewer b (x ∷ xs) = omega (arith, never_fewer (up_to_next b x) xs, length-append b.records (replacement b x))

more_replaced : (xs ys : List Raw) → length (replaced xs) ≤ length (replaced (xs ++ ys))
more_replaced xs ys = subst (λ (b : Before). length (replaced xs) ≤ length b.records) (sym (fold-append up_to_next start xs ys)) (never_fewer (so_far xs) ys)

-- Of two readings of an input one goes on after the other.
data Compared (xs ys : List Raw) (x y : Raw) : Type 0 where
  Same : xs ≡ ys → Compared xs ys x y
  Further : (more : List Raw) → ys ≡ (xs ++ x ∷ []) ++ more → Compared xs ys x y
  Nearer : (more : List Raw) → xs ≡ (ys ++ y ∷ []) ++ more → Compared xs ys x y

one_more : (z w : Raw) (xs ys : List Raw) (x y : Raw) → z ≡ w → Compared xs ys x y → Compared (z ∷ xs) (w ∷ ys) x y
one_more z w xs ys x y same (Same e) = Same (ap (λ v. v ∷ xs) same ∙ ap (λ l. w ∷ l) e)
one_more z w xs ys x y same (Further more e) = Further more (ap (λ l. w ∷ l) e ∙ ap (λ v. v ∷ ((xs ++ x ∷ []) ++ more)) (sym same))
one_more z w xs ys x y same (Nearer more e) = Nearer more (ap (λ l. z ∷ l) e ∙ ap (λ v. v ∷ ((ys ++ y ∷ []) ++ more)) same)

same_front : (x y : Raw) → IsWideRecord x → IsWideRecord y → (rest other : List ℕ) → raw_bytes x ++ rest ≡ raw_bytes y ++ other → x ≡ y
same_front x y wide too rest other e = sym (front_is x wide rest) ∙ ap front_record e ∙ front_is y too other

compared : (xs ys : List Raw) (x y : Raw) (rest other : List ℕ) → All IsWideRecord xs → All IsWideRecord ys → IsWideRecord x → IsWideRecord y
    → flat_map raw_bytes xs ++ (raw_bytes x ++ rest) ≡ flat_map raw_bytes ys ++ (raw_bytes y ++ other) → Compared xs ys x y
compared [] [] x y rest other each every wide too e = Same refl
compared [] (w ∷ ws) x y rest other each every wide too e =
    let left : List ℕ = flat_map raw_bytes ws ++ (raw_bytes y ++ other) in
    let same : x ≡ w = same_front x w wide (All-head IsWideRecord w ws every) rest left (e ∙ append_assoc (raw_bytes w) (flat_map raw_bytes ws) (raw_bytes y ++ other)) in
    Further ws (ap (λ v. v ∷ ws) (sym same))
compared (z ∷ zs) [] x y rest other each every wide too e =
    let left : List ℕ = flat_map raw_bytes zs ++ (raw_bytes x ++ rest) in
    let same : z ≡ y = same_front z y (All-head IsWideRecord z zs each) too left other (sym (append_assoc (raw_bytes z) (flat_map raw_bytes zs) (raw_bytes x ++ rest)) ∙ e) in
    Nearer zs (ap (λ v. v ∷ zs) same)
compared (z ∷ zs) (w ∷ ws) x y rest other each every wide too e =
    let left : List ℕ = flat_map raw_bytes zs ++ (raw_bytes x ++ rest) in
    let right : List ℕ = flat_map raw_bytes ws ++ (raw_bytes y ++ other) in
    let all : raw_bytes z ++ left ≡ raw_bytes w ++ right = sym (append_assoc (raw_bytes z) (flat_map raw_bytes zs) (raw_bytes x ++ rest)) ∙ e ∙ append_assoc (raw_bytes w) (flat_map raw_bytes ws) (raw_bytes y ++ other) in
    let same : z ≡ w = same_front z w (All-head IsWideRecord z zs each) (All-head IsWideRecord w ws every) left right all in
    let tails : left ≡ right = append_cancel_left (raw_bytes z) left right (all ∙ ap (λ v. raw_bytes v ++ right) (sym same)) in
    one_more z w zs ws x y same (compared zs ws x y rest other (All-tail IsWideRecord z zs each) (All-tail IsWideRecord w ws every) wide too tails)

no_end_among : (xs : List Raw) (x : Raw) (more : List Raw) → All (λ r. IsTrue (not (is_end r.kind))) ((xs ++ x ∷ []) ++ more) → IsTrue (is_end x.kind) → ⊥
no_end_among [] x more none ends = by (is_end x.kind) (All-head (λ r. IsTrue (not (is_end r.kind))) x more none) ends
  where
    by : (b : Bool) → IsTrue (not b) → IsTrue b → ⊥
    by true h e = absurd cc
    by false h e = absurd cc
no_end_among (z ∷ zs) x more none ends = no_end_among zs x more (All-tail (λ r. IsTrue (not (is_end r.kind))) z ((zs ++ x ∷ []) ++ more) none) ends

-- a reading does not go on after the record
not_further : (input : List ℕ) (number : ℕ) (p q : Place) (k : IsOrigin input number p) (l : IsOrigin input number q) (more : List Raw) → l.before ≡ (k.before ++ k.origin ∷ []) ++ more → ⊥
not_further input number p q k l more e = by k.to
  where
    by : (number < length (replaced (k.before ++ k.origin ∷ []))) ⊎ IsTrue (is_end k.origin.kind) → ⊥
    by (inl low) =
        let from : length (replaced ((k.before ++ k.origin ∷ []) ++ more)) ≤ number = subst (λ rs. length (replaced rs) ≤ number) e l.from in
        absurd (omega (arith, low, from, more_replaced (k.before ++ k.origin ∷ []) more))
    by (inr ends) = no_end_among k.before k.origin more (subst (All (λ r. IsTrue (not (is_end r.kind)))) e l.begins.no_end) ends

pub origin_once : (input : List ℕ) (number : ℕ) (p q : Place) → IsOrigin input number p → IsOrigin input number q → (p.number ≡ q.number) × (p.start ≡ q.start)
origin_once input number p q k l =
    by (compared k.before l.before k.origin l.origin k.rest l.rest k.begins.each l.begins.each k.wide l.wide (sym k.begins.spelled ∙ l.begins.spelled))
  where
    by : Compared k.before l.before k.origin l.origin → (p.number ≡ q.number) × (p.start ≡ q.start)
    by (Same e) = (k.numbered ∙ ap length e ∙ sym l.numbered, k.started ∙ ap (λ rs. length (flat_map raw_bytes rs)) e ∙ sym l.started)
    by (Further more e) = absurd (not_further input number p q k l more e)
    by (Nearer more e) = absurd (not_further input number q p l k more e)

-- Bytes of which many are compared at once.
use Rattle.std.proofs.Common.{◌≡◌, ℕ, zero, suc, ◌+◌, ◌<◌, ◌≤◌, Bool, true, false, List, [], ◌∷◌, length, take, drop, refl, sym, ap, subst, ◌∙◌, arith}
use Rattle.std.specs.Prelude.{get_or, ◌&&◌}
use Rattle.std.proofs.Math.Bool.{and_assoc}
use Rattle.std.proofs.lemmas.List.{take_all}
use Rattle.omf_finding.specs.Inner.Shaping.{cell_agrees, cells_agree}

and-true : (b : Bool) → (b && true) ≡ b
and-true true = refl
and-true false = refl

-- one more byte of each
pub cells-more : (vs ms ps : List ℕ) (i d e f : ℕ) → i < length vs → i < length ms → i < length ps
    → cells_agree (take (i + 1) vs) (take (i + 1) ms) (take (i + 1) ps) ≡ (cells_agree (take i vs) (take i ms) (take i ps) && cell_agrees (get_or vs i d) (get_or ms i e) (get_or ps i f))
cells-more [] ms ps i d e f a b c = absurd (omega (arith, a))
cells-more (w ∷ vs) [] ps i d e f a b c = absurd (omega (arith, b))
cells-more (w ∷ vs) (n ∷ ms) [] i d e f a b c = absurd (omega (arith, c))
cells-more (w ∷ vs) (n ∷ ms) (q ∷ ps) zero d e f a b c = and-true (cell_agrees w n q)
cells-more (w ∷ vs) (n ∷ ms) (q ∷ ps) (suc i) d e f a b c =
    let same : suc (i + 1) ≡ suc i + 1 = omega arith in
    let before = cells_agree (take i vs) (take i ms) (take i ps) in
    let last = cell_agrees (get_or vs i d) (get_or ms i e) (get_or ps i f) in
    let more = cells-more vs ms ps i d e f (omega (arith, a)) (omega (arith, b)) (omega (arith, c)) in
    subst (λ (k : ℕ). cells_agree (take k (w ∷ vs)) (take k (n ∷ ms)) (take k (q ∷ ps)) ≡ ((cell_agrees w n q && before) && last)) same
    (ap (λ (t : Bool). cell_agrees w n q && t) more ∙ sym (and_assoc (cell_agrees w n q) before last))

pub same-cells : (vs ms ps ws ns qs : List ℕ) → vs ≡ ws → ms ≡ ns → ps ≡ qs → cells_agree vs ms ps ≡ cells_agree ws ns qs
same-cells vs ms ps ws ns qs e f g =
    ap (λ (t : List ℕ). cells_agree t ms ps) e ∙ ap (λ (t : List ℕ). cells_agree ws t ps) f ∙ ap (λ (t : List ℕ). cells_agree ws ns t) g

-- all bytes
pub cells-all : (n : ℕ) (vs ms ps : List ℕ) → length vs ≤ n → length ms ≤ n → length ps ≤ n → cells_agree (take n vs) (take n ms) (take n ps) ≡ cells_agree vs ms ps
cells-all n vs ms ps a b c = same-cells (take n vs) (take n ms) (take n ps) vs ms ps (take_all n vs a) (take_all n ms b) (take_all n ps c)

-- the first n bytes of each, and the others
pub cells-split : (n : ℕ) (vs ms ps : List ℕ) → n ≤ length vs → n ≤ length ms → n ≤ length ps
    → cells_agree vs ms ps ≡ (cells_agree (take n vs) (take n ms) (take n ps) && cells_agree (drop n vs) (drop n ms) (drop n ps))
cells-split zero vs ms ps a b c = refl
cells-split (suc n) [] ms ps a b c = absurd (omega (arith, a))
cells-split (suc n) (v ∷ vs) [] ps a b c = absurd (omega (arith, b))
cells-split (suc n) (v ∷ vs) (m ∷ ms) [] a b c = absurd (omega (arith, c))
cells-split (suc n) (v ∷ vs) (m ∷ ms) (p ∷ ps) a b c =
    let front = cells_agree (take n vs) (take n ms) (take n ps) in
    let others = cells_agree (drop n vs) (drop n ms) (drop n ps) in
    ap (λ (t : Bool). cell_agrees v m p && t) (cells-split n vs ms ps (omega (arith, a)) (omega (arith, b)) (omega (arith, c))) ∙ sym (and_assoc (cell_agrees v m p) front others)

-- the same, where these are the first n bytes and the others, and what the first ones show is known
pub chunk-passed : (n : ℕ) (vs ms ps own marks bytes others others_marks others_bytes : List ℕ) (known : Bool) → n ≤ length vs → n ≤ length ms → n ≤ length ps
    → own ≡ take n vs → marks ≡ take n ms → bytes ≡ take n ps → others ≡ drop n vs → others_marks ≡ drop n ms → others_bytes ≡ drop n ps
    → cells_agree own marks bytes ≡ known → cells_agree vs ms ps ≡ (known && cells_agree others others_marks others_bytes)
chunk-passed n vs ms ps own marks bytes others others_marks others_bytes known a b c e f g h i j k =
    let front = same-cells own marks bytes (take n vs) (take n ms) (take n ps) e f g in
    let back = same-cells others others_marks others_bytes (drop n vs) (drop n ms) (drop n ps) h i j in
    cells-split n vs ms ps a b c
    ∙ ap (λ (t : Bool). t && cells_agree (drop n vs) (drop n ms) (drop n ps)) (sym front ∙ k)
    ∙ ap (λ (t : Bool). known && t) (sym back)

-- ---- one after another

-- the first n bytes of each, where one of them has no more
pub cells-short : (n : ℕ) (vs ms ps : List ℕ) → (n < length vs → n < length ms → n < length ps → ⊥) → cells_agree (take n vs) (take n ms) (take n ps) ≡ cells_agree vs ms ps
cells-short zero [] ms ps h = refl
cells-short zero (v ∷ vs) [] ps h = refl
cells-short zero (v ∷ vs) (m ∷ ms) [] h = refl
cells-short zero (v ∷ vs) (m ∷ ms) (p ∷ ps) h = absurd (h (omega arith) (omega arith) (omega arith))
cells-short (suc n) [] ms ps h = refl
cells-short (suc n) (v ∷ vs) [] ps h = refl
cells-short (suc n) (v ∷ vs) (m ∷ ms) [] h = refl
cells-short (suc n) (v ∷ vs) (m ∷ ms) (p ∷ ps) h =
    ap (λ (t : Bool). cell_agrees v m p && t) (cells-short n vs ms ps (λ a b c. h (omega (arith, a)) (omega (arith, b)) (omega (arith, c))))

and-false : (b : Bool) → (b && false) ≡ false
and-false true = refl
and-false false = refl

-- a byte differs
pub cells-differ : (vs ms ps : List ℕ) (i d e f : ℕ) → i < length vs → i < length ms → i < length ps → cell_agrees (get_or vs i d) (get_or ms i e) (get_or ps i f) ≡ false → cells_agree vs ms ps ≡ false
cells-differ vs ms ps i d e f a b c differs =
    let before = cells_agree (take i vs) (take i ms) (take i ps) in
    let others = cells_agree (drop (i + 1) vs) (drop (i + 1) ms) (drop (i + 1) ps) in
    cells-split (i + 1) vs ms ps (omega (arith, a)) (omega (arith, b)) (omega (arith, c))
    ∙ ap (λ (t : Bool). t && others) (cells-more vs ms ps i d e f a b c ∙ ap (λ (t : Bool). before && t) differs ∙ and-false before)

-- The number of copies, and the copies of one turn more.
use Rattle.std.proofs.Common.{◌≡◌, inl, inr, ℕ, zero, suc, ◌+◌, ◌-◌, ◌*◌, ◌^◌, ◌≤◌, List, [], ◌∷◌, ◌++◌, refl, sym, ap, ◌∙◌, length, take, drop, subst, arith, length-append, append-nil}
use Rattle.std.specs.Prelude.{flat_map}
use Rattle.std.specs.List.{range_with_len}
use Rattle.std.proofs.Math.Nat.{min-eq_left, min-eq_right, mul_comm}
use Rattle.std.proofs.lemmas.Bool.Decides.{leb_tells}
use Rattle.std.proofs.lemmas.Grind.{flat_map-append}
use Rattle.std.proofs.lemmas.List.{drop_all, length-map, take-append-le}
use Rattle.omf_image.specs.Inner.Lengths.{capped}
use Rattle.omf_lowering.specs.declared.copies.Turn.{Turn}
use Rattle.omf_lowering.specs.Inner.Turns.{Path, counts, further, in_turns, offsets_by, offsets_of}

abbrev pub top : ℕ
top = 2 ^ 64 - 1

pub under : (a : ℕ) → a ≤ top → capped a ≡ a
under a h = min-eq_left h

over : (a : ℕ) → top ≤ a → capped a ≡ top
over a h = min-eq_right h

some_times : (a b : ℕ) → top ≤ a → top ≤ a * suc b
some_times a b h = omega (arith, h)

cap_times : (a b : ℕ) → capped (capped a * b) ≡ capped (a * b)
cap_times a zero = ap capped (omega arith)
cap_times a (suc b) = elim (leb_tells a top) [
  | inl t ↦ ap (λ n. capped (n * suc b)) (under a t.1)
  | inr t ↦ ap (λ n. capped (n * suc b)) (over a (omega (arith, t.1))) ∙ over (top * suc b) (some_times top b (omega arith)) ∙ sym (over (a * suc b) (some_times a b (omega (arith, t.1))))
]

pub cap_product : (n a b : ℕ) → capped a ≡ capped b → capped (n * a) ≡ capped (n * b)
cap_product n a b e = ap capped (mul_comm n a) ∙ sym (cap_times a n) ∙ ap (λ c. capped (c * n)) e ∙ cap_times b n ∙ ap capped (mul_comm b n)

turn_length : (size from n : ℕ) (xs : List ℕ) → length (flat_map (λ k. further (k * size) xs) (range_with_len from n)) ≡ n * length xs
turn_length size from zero xs = omega arith
turn_length size from (suc n) xs =
    length-append (further (from * size) xs) (flat_map (λ k. further (k * size) xs) (range_with_len (from + 1) n))
    ∙ ap (λ m. m + length (flat_map (λ k. further (k * size) xs) (range_with_len (from + 1) n))) (length-map xs (λ x. x + from * size))
    ∙ ap (λ m. length xs + m) (turn_length size (from + 1) n xs) ∙ omega arith

times_turn : (xs : List ℕ) (t : Turn) → capped (capped (length xs) * t.count) ≡ capped (length (in_turns xs t))
times_turn xs t = cap_times (length xs) t.count ∙ ap capped (omega (arith, turn_length t.size 0 t.count xs))

counted_from : (xs : List ℕ) (turns : List Turn) → counts (capped (length xs)) turns ≡ capped (length (offsets_by xs turns))
counted_from xs [] = refl
counted_from xs (t ∷ turns) = ap (λ n. counts n turns) (times_turn xs t) ∙ counted_from (in_turns xs t) turns

pub counted : (p : Path) → counts 1 p.turns ≡ capped (length (offsets_of p))
counted p = counted_from (p.first ∷ []) p.turns

count_on : (a n j : ℕ) → a + n ≡ j → range_with_len a (suc n) ≡ range_with_len a n ++ j ∷ []
count_on a zero j e = let same : a ≡ j = omega (arith, e) in ap (λ k. k ∷ []) same
count_on a (suc n) j e = ap (λ xs. a ∷ xs) (count_on (a + 1) n j (omega (arith, e)))

pub counting_more : (n : ℕ) → range_with_len 0 (n + 1) ≡ range_with_len 0 n ++ n ∷ []
counting_more n = let on : n + 1 ≡ suc n = omega arith in ap (range_with_len 0) on ∙ count_on 0 n n (omega arith)

-- one turn more
module _ (size n len by : ℕ) (old items new : List ℕ) (is : items ≡ flat_map (λ k. further (k * size) old) (range_with_len 0 n)) (front : take len items ≡ old) (low : len ≤ length items)
    (far : by ≡ size * n) (more : new ≡ items ++ further by (take len items)) where
  pub turn_more : new ≡ flat_map (λ k. further (k * size) old) (range_with_len 0 (n + 1))
  turn_more =
      more ∙ ap (λ xs. items ++ further by xs) front ∙ ap (λ b. items ++ further b old) (far ∙ mul_comm size n)
      ∙ ap (λ xs. xs ++ further (n * size) old) is
      ∙ ap (λ xs. flat_map (λ k. further (k * size) old) (range_with_len 0 n) ++ xs) (sym (append-nil (further (n * size) old)))
      ∙ sym (flat_map-append (λ k. further (k * size) old) (range_with_len 0 n) (n ∷ []))
      ∙ ap (flat_map (λ k. further (k * size) old)) (sym (counting_more n))

  pub turn_front : take len new ≡ old
  turn_front = ap (take len) more ∙ take-append-le len items (further by (take len items)) low ∙ front

  pub turn_within : len ≤ length new
  turn_within = let l = ap length more in omega (arith, l, length-append items (further by (take len items)), low)

-- no copies
pub none_of : (p : Path) → capped (length (offsets_of p)) ≡ 0 → offsets_of p ≡ []
none_of p e = by (offsets_of p) e
  where
    by : (xs : List ℕ) → capped (length xs) ≡ 0 → xs ≡ []
    by [] e = refl
    by (x ∷ xs) e = elim (leb_tells (suc (length xs)) top) [
      | inl t ↦ absurd (let u = under (suc (length xs)) t.1 in omega (arith, u, e))
      | inr t ↦ absurd (let u = over (suc (length xs)) (omega (arith, t.1)) in omega (arith, u, e))
    ]

-- after the last turn
pub counted_end : (p : Path) (turns : List Turn) (n count : ℕ) → turns ≡ p.turns → length turns ≤ n → counts count (drop n p.turns) ≡ counts 1 p.turns → count ≡ capped (length (offsets_of p))
counted_end p turns n count same end e =
    let none : drop n p.turns ≡ [] = drop_all n p.turns (subst (λ xs. length xs ≤ n) same end) in
    sym (ap (counts count) none) ∙ e ∙ counted p

pub offsets_end : (p : Path) (turns : List Turn) (n : ℕ) (xs : List ℕ) → turns ≡ p.turns → length turns ≤ n → offsets_by xs (drop n p.turns) ≡ offsets_by (p.first ∷ []) p.turns → xs ≡ offsets_of p
offsets_end p turns n xs same end e =
    let none : drop n p.turns ≡ [] = drop_all n p.turns (subst (λ ys. length ys ≤ n) same end) in
    sym (ap (offsets_by xs) none) ∙ e

-- Words that are marked where they begin.
use Rattle.std.proofs.Common.{◌≡◌, ℕ, zero, suc, ◌+◌, ◌-◌, ◌<◌, ◌≤◌, List, [], ◌∷◌, Bool, true, false, cond, length, min, refl, sym, ◌∙◌, ap, ap₂, ⊎_elim, arith, eq-eqb}
use Rattle.std.specs.Prelude.{Option, None, ◌==◌, ◌||◌, ◌&&◌, nat_le, slice_index_or}
use Rattle.std.specs.List.{list_any}
use Rattle.std.proofs.lemmas.Bool.{eqb-true}
use Rattle.std.proofs.lemmas.Bool.Decides.{leb_tells}
use Rattle.omf_output.specs.Exe.Overlaps.{AreMarked, are_clear}

abbrev is_beside : ℕ → ℕ → ℕ → Bool
is_beside from to w = nat_le (w + 2) from || nat_le to w

beside : (from to w : ℕ) → (from ≤ w + 1 → w < to → ⊥) → is_beside from to w ≡ true
beside from to w h = ⊎_elim (λ t. ap (λ a. a || nat_le to w) t.0) (λ t. ap (λ a. a || nat_le to w) t.0 ∙ rest t.1) (leb_tells (w + 2) from)
  where
    rest : from < w + 2 → nat_le to w ≡ true
    rest l = ⊎_elim (λ u. u.0) (λ u. absurd (h (omega (arith, l)) u.1)) (leb_tells to w)

not-beside : (from to w : ℕ) → from ≤ w + 1 → w < to → is_beside from to w ≡ false
not-beside from to w h g =
    ⊎_elim (λ t. absurd (omega (arith, t.1, h))) (λ t. ap (λ a. a || nat_le to w) t.0 ∙ ⊎_elim (λ u. absurd (omega (arith, u.1, g))) (λ u. u.0) (leb_tells to w)) (leb_tells (w + 2) from)

or-true : (a b : Bool) → a ≡ true → (a || b) ≡ true
or-true true b e = refl
or-true false b e = absurd cc

or-later : (a b : Bool) → b ≡ true → (a || b) ≡ true
or-later true b e = refl
or-later false b e = e

all-beside : (from to : ℕ) (ws : List ℕ) → ((w : ℕ) → list_any (λ v. v == w) ws ≡ true → from ≤ w + 1 → w < to → ⊥) → are_clear ws from to ≡ true
all-beside from to [] h = refl
all-beside from to (w ∷ ws) h =
    ap₂ (λ a b. a && b) (beside from to w (h w (or-true (w == w) (list_any (λ v. v == w) ws) (eq-eqb w w refl))))
    (all-beside from to ws (λ x e. h x (or-later (w == x) (list_any (λ v. v == x) ws) e)))

and-none : (a : Bool) → (a && false) ≡ false
and-none true = refl
and-none false = refl

one-covered : (from to x : ℕ) (ws : List ℕ) → list_any (λ v. v == x) ws ≡ true → from ≤ x + 1 → x < to → are_clear ws from to ≡ false
one-covered from to x [] e h g = absurd cc
one-covered from to x (w ∷ ws) e h g = by (w == x) refl e (one-covered from to x ws)
  where
    by : (b : Bool) → (w == x) ≡ b → (b || list_any (λ v. v == x) ws) ≡ true
        → (list_any (λ v. v == x) ws ≡ true → from ≤ x + 1 → x < to → are_clear ws from to ≡ false) → (is_beside from to w && are_clear ws from to) ≡ false
    by true f e rest = let same = eqb-true w x f in ap (λ b. b && are_clear ws from to) (not-beside from to w (omega (arith, same, h)) (omega (arith, same, g)))
    by false f e rest = ap (λ b. is_beside from to w && b) (rest e h g) ∙ and-none (is_beside from to w)

past : (starts : List Bool) (x : ℕ) → length starts ≤ x → slice_index_or starts x false ≡ false
past [] x h = refl
past (s ∷ starts) zero h = absurd (omega arith)
past (s ∷ starts) (suc x) h = past starts x (omega arith)

pub clear-by : (starts : List Bool) (ws : List ℕ) (from to low high : ℕ) (b : Bool) → AreMarked starts ws → low ≡ from - 1 → high ≡ min to (length starts)
    → (b ≡ true → (x : ℕ) → low ≤ x → x < high → slice_index_or starts x false ≡ false)
    → (b ≡ false → (x : ℕ) × (low ≤ x) × (x < high) × (slice_index_or starts x false ≡ true)) → b ≡ are_clear ws from to
clear-by starts ws from to low high true marked el eh none one = sym (all-beside from to ws at)
  where
    at : (w : ℕ) → list_any (λ v. v == w) ws ≡ true → from ≤ w + 1 → w < to → ⊥
    at w e h g = ⊎_elim (λ t. outside t.1) (λ t. inside t.1) (leb_tells (length starts) w)
      where
        begins : slice_index_or starts w false ≡ true
        begins = marked w ∙ e

        outside : length starts ≤ w → ⊥
        outside l = let out = past starts w l in let is = begins in absurd cc

        inside : w < length starts → ⊥
        inside l = let out = none refl w (omega (arith, el, h)) (omega (arith, eh, g, l)) in let is = begins in absurd cc
clear-by starts ws from to low high false marked el eh none one =
    let x = one refl in
    let above = x.1 in
    let below = x.2 in
    sym (one-covered from to x.0 ws (sym (marked x.0) ∙ x.3) (omega (arith, above, el)) (omega (arith, below, eh)))

-- ---- one fixup, by its test

pub not-taken : (b c : Bool) (o : Option (List ℕ)) → b ≡ c → b ≡ false → cond c o None ≡ None
not-taken b c o e f = ap (λ x. cond x o None) (sym e ∙ f)

pub taken : (b c : Bool) (o : Option (List ℕ)) → b ≡ c → b ≡ true → cond c o None ≡ o
taken b c o e f = ap (λ x. cond x o None) (sym e ∙ f)

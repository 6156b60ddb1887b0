-- The table of the groups of segments.
use Rattle.std.proofs.Common.{◌≡◌, ℕ, zero, suc, ◌+◌, ◌-◌, ◌≤◌, ◌<◌, List, [], ◌∷◌, ◌++◌, Bool, true, false, cond, length, map, refl, sym, subst, ◌∙◌, ap, arith, set}
use Rattle.std.specs.Prelude.{◌==◌, All, Option, Some, None, find, flat_map, get_or, option_and_then, option_map, replicate, unwrap_or}
use Rattle.std.specs.List.{enumerate_from}
use Rattle.std.proofs.lemmas.Bool.{eq-eqb, eqb-false, eqb-true, ne_eqb}
use Rattle.std.proofs.lemmas.List.{append_assoc, get_or-replicate, get_or-set_same, get_or-set_other, length-replicate, length-set}
use Rattle.std.proofs.lemmas.List.Elements.{All-append, All-cons, All-head, All-nil, All-tail}
use Rattle.omf_check.specs.Tables.{entry, groups, segments}
use Rattle.omf_records.specs.Values.{At, GroupItem, Rec}
use Rattle.omf_output.specs.Inner.Owners.{HasTaken, IsTable, owner, paired}
use Rattle.omf_output.proofs.Steps.{entry_there}
use Rattle.omf_output.specs.Near.{group_of, members_of, memberships}

-- ---- taking pairs

pub taken-none : (t : List ℕ) → HasTaken t t []
taken-none t = record { size = refl; owners = λ k rest a b. refl }

pub taken-more : (a b c : List ℕ) (p q : List (ℕ × ℕ)) → HasTaken a b p → HasTaken b c q → HasTaken a c (p ++ q)
taken-more a b c p q f g = record {
  size = g.size ∙ f.size;
  owners = λ k rest low high. g.owners k rest low (let s = f.size in omega (arith, high, s)) ∙ f.owners k (q ++ rest) low high ∙ ap (λ l. owner a l k) (sym (append_assoc p q rest));
}

-- A pair that is noted where the table has 0.
module _ (t : List ℕ) (s g : ℕ) (low : 1 ≤ s) (high : s ≤ length t) (free : get_or t (s - 1) 0 ≡ 0) (positive : 1 ≤ g) where
  at-own : (rest : List (ℕ × ℕ)) → owner (set t (s - 1) g) rest s ≡ owner t ((s, g) ∷ rest) s
  at-own rest =
      let put : get_or (set t (s - 1) g) (s - 1) 0 ≡ g = get_or-set_same t (s - 1) g 0 (omega (arith, low, high)) in
      let some : (g == 0) ≡ false = ne_eqb g 0 (λ z. omega (arith, z, positive)) in
      ap (λ n. cond (n == 0) (paired s rest) n) put ∙ ap (λ b. cond b (paired s rest) g) some
      ∙ sym (ap (λ n. cond (n == 0) (paired s ((s, g) ∷ rest)) n) free
      ∙ ap (λ b. unwrap_or (option_map (λ (x : ℕ × ℕ). x.1) (cond b (Some (s, g)) (find (λ x. x.0 == s) rest))) 0) (eq-eqb s s refl))

  at-other : (k : ℕ) (rest : List (ℕ × ℕ)) → 1 ≤ k → (s == k) ≡ false → owner (set t (s - 1) g) rest k ≡ owner t ((s, g) ∷ rest) k
  at-other k rest l e =
      let apart : (k - 1 ≡ s - 1 → ⊥) = λ z. let same : s ≡ k = omega (arith, z, l, low) in eqb-false s k e same in
      ap (λ n. cond (n == 0) (paired k rest) n) (get_or-set_other t (s - 1) (k - 1) g 0 apart)
      ∙ ap (λ b. cond (get_or t (k - 1) 0 == 0) (unwrap_or (option_map (λ (x : ℕ × ℕ). x.1) (cond b (Some (s, g)) (find (λ x. x.0 == k) rest))) 0) (get_or t (k - 1) 0)) (sym e)

  at-any : (k : ℕ) (rest : List (ℕ × ℕ)) → 1 ≤ k → owner (set t (s - 1) g) rest k ≡ owner t ((s, g) ∷ rest) k
  at-any k rest l = by (s == k) refl
    where
      by : (b : Bool) → (s == k) ≡ b → owner (set t (s - 1) g) rest k ≡ owner t ((s, g) ∷ rest) k
      by true e = let same = eqb-true s k e in subst (λ n. owner (set t (s - 1) g) rest n ≡ owner t ((s, g) ∷ rest) n) same (at-own rest)
      by false e = at-other k rest l e

  pub noted : HasTaken t (set t (s - 1) g) ((s, g) ∷ [])
  noted = record { size = length-set t (s - 1) g; owners = λ k rest l h. at-any k rest l }

-- A pair that is not noted: the table has a group for the segment, or no place.
-- What is found for segment k with the pair first, if the pair is for it (a), and if the table has 0 (b).
abbrev skips : (t : List ℕ) (k : ℕ) (pair : ℕ × ℕ) (rest : List (ℕ × ℕ)) → Bool → Bool → Type 0
skips t k pair rest a b = cond b (paired k rest) (get_or t (k - 1) 0) ≡ cond b (unwrap_or (option_map (λ (x : ℕ × ℕ). x.1) (cond a (Some pair) (find (λ x. x.0 == k) rest))) 0) (get_or t (k - 1) 0)

skipped-at : (t : List ℕ) (s g k : ℕ) (rest : List (ℕ × ℕ)) → ((s ≡ k) → (get_or t (k - 1) 0 ≡ 0 → ⊥)) → owner t rest k ≡ owner t ((s, g) ∷ rest) k
skipped-at t s g k rest has = by (s == k) (get_or t (k - 1) 0 == 0) refl refl
  where
    by : (a b : Bool) → (s == k) ≡ a → (get_or t (k - 1) 0 == 0) ≡ b → skips t k (s, g) rest a b
    by true true e f = absurd (has (eqb-true s k e) (eqb-true (get_or t (k - 1) 0) 0 f))
    by true false e f = refl
    by false true e f = refl
    by false false e f = refl

pub skipped : (t : List ℕ) (s g : ℕ) → (1 ≤ s → s ≤ length t → get_or t (s - 1) 0 ≡ 0 → ⊥) → HasTaken t t ((s, g) ∷ [])
skipped t s g has = record {
  size = refl;
  owners = λ k rest low high. skipped-at t s g k rest (λ e z.
      let l : 1 ≤ s = omega (arith, e, low) in
      let h : s ≤ length t = omega (arith, e, high) in
      has l h (ap (λ n. get_or t (n - 1) 0) e ∙ z));
}

-- ---- the table of a module

pub blank-table : (m : List Rec) (t : List ℕ) → t ≡ replicate (length (segments m)) 0 → IsTable m (memberships m) t
blank-table m t e =
    let n = length (segments m) in
    let size : length t ≡ n = ap length e ∙ length-replicate n 0 in record {
      size = size;
      owners = λ k low high.
          let here : k - 1 < n = omega (arith, low, high, size) in
          ap (λ x. cond (x == 0) (paired k (memberships m)) x) (ap (λ l. get_or l (k - 1) 0) e ∙ get_or-replicate n (k - 1) 0 0 here);
    }

pub table-more : (m : List Rec) (old new : List ℕ) (p left : List (ℕ × ℕ)) → IsTable m (p ++ left) old → HasTaken old new p → IsTable m left new
table-more m old new p left f g = record {
  size = g.size ∙ f.size;
  owners = λ k low high. let h : k ≤ length old = (let s = g.size in omega (arith, high, s)) in g.owners k left low h ∙ f.owners k low h;
}

-- Groups are counted from 1.
from-one : (i : ℕ) (gs : List GroupItem) → 1 ≤ i → All (λ (x : ℕ × ℕ). 1 ≤ x.1) (flat_map members_of (enumerate_from i gs))
from-one i [] l = All-nil (λ (x : ℕ × ℕ). 1 ≤ x.1)
from-one i (g ∷ gs) l = All-append (λ (x : ℕ × ℕ). 1 ≤ x.1) (members_of (i, g)) (flat_map members_of (enumerate_from (i + 1) gs)) (own g.members) (from-one (i + 1) gs (omega arith))
  where
    own : (xs : List (At (At ℕ))) → All (λ (x : ℕ × ℕ). 1 ≤ x.1) (map (λ (y : At (At ℕ)). (y.item.item, i)) xs)
    own [] = All-nil (λ (x : ℕ × ℕ). 1 ≤ x.1)
    own (y ∷ ys) = All-cons (λ (x : ℕ × ℕ). 1 ≤ x.1) (y.item.item, i) (map (λ (z : At (At ℕ)). (z.item.item, i)) ys) l (own ys)

found-one : (k : ℕ) (ps : List (ℕ × ℕ)) → All (λ (x : ℕ × ℕ). 1 ≤ x.1) ps → (v : ℕ) → v ≡ paired k ps → cond (v == 0) None (Some v) ≡ option_map (λ (x : ℕ × ℕ). x.1) (find (λ x. x.0 == k) ps)
found-one k [] a v e = ap (λ n. cond (n == 0) None (Some n)) e
found-one k (p ∷ ps) a v e = by (p.0 == k) e (found-one k ps (All-tail (λ (x : ℕ × ℕ). 1 ≤ x.1) p ps a) v)
  where
    by : (b : Bool) → v ≡ unwrap_or (option_map (λ (x : ℕ × ℕ). x.1) (cond b (Some p) (find (λ x. x.0 == k) ps))) 0
        → (v ≡ paired k ps → cond (v == 0) None (Some v) ≡ option_map (λ (x : ℕ × ℕ). x.1) (find (λ x. x.0 == k) ps))
        → cond (v == 0) None (Some v) ≡ option_map (λ (x : ℕ × ℕ). x.1) (cond b (Some p) (find (λ x. x.0 == k) ps))
    by true f rest =
        let some : (p.1 == 0) ≡ false = (let l = All-head (λ (x : ℕ × ℕ). 1 ≤ x.1) p ps a in ne_eqb p.1 0 (λ z. omega (arith, z, l))) in
        ap (λ n. cond (n == 0) None (Some n)) f ∙ ap (λ c. cond c None (Some p.1)) some
    by false f rest = rest f

-- What a whole table has for a segment.
pub group-found : (m : List Rec) (t : List ℕ) (k v : ℕ) → IsTable m [] t → 1 ≤ k → k ≤ length t → v ≡ get_or t (k - 1) 0 → cond (v == 0) None (Some v) ≡ group_of m k
group-found m t k v is low high e =
    let there = entry_there (segments m) (k - 1) (let s = is.size in omega (arith, low, high, s)) in
    let k-is : k - 1 + 1 ≡ k = omega (arith, low) in
    found-one k (memberships m) (from-one 1 (groups m) (omega arith)) v (e ∙ own (get_or t (k - 1) 0) refl)
    ∙ ap (option_and_then (λ s. option_map (λ (x : ℕ × ℕ). x.1) (find (λ x. x.0 == k) (memberships m)))) (sym (sym (ap (entry (segments m)) k-is) ∙ there.1))
  where
    own : (n : ℕ) → get_or t (k - 1) 0 ≡ n → n ≡ paired k (memberships m)
    own n f = by (n == 0) refl (sym (ap (λ x. cond (x == 0) 0 x) f) ∙ is.owners k low high)
      where
        by : (b : Bool) → (n == 0) ≡ b → cond (n == 0) 0 n ≡ paired k (memberships m) → n ≡ paired k (memberships m)
        by true g h = eqb-true n 0 g ∙ sym (ap (λ c. cond c 0 n) g) ∙ h
        by false g h = sym (ap (λ c. cond c 0 n) g) ∙ h

pub no-group : (m : List Rec) (k : ℕ) → entry (segments m) k ≡ None → None ≡ group_of m k
no-group m k e = sym (ap (option_and_then (λ s. option_map (λ (x : ℕ × ℕ). x.1) (find (λ x. x.0 == k) (memberships m)))) e)

-- The same by the place of its entry: none where that is 0.
module _ (m : List Rec) (t : List ℕ) (k i : ℕ) (is : IsTable m [] t) (low : 1 ≤ k) (place : i ≡ k - 1) (there : i < length (segments m)) where
  within : k ≤ length t
  within = let s = is.size in omega (arith, low, place, there, s)

  pub none-found : get_or t i 0 ≡ 0 → None ≡ group_of m k
  none-found e = sym (ap (λ n. cond (n == 0) None (Some n)) e) ∙ group-found m t k (get_or t i 0) is low within (ap (λ j. get_or t j 0) place)

  pub some-found : (get_or t i 0 ≡ 0 → ⊥) → Some (get_or t i 0) ≡ group_of m k
  some-found some =
      sym (ap (λ b. cond b None (Some (get_or t i 0))) (ne_eqb (get_or t i 0) 0 some)) ∙ group-found m t k (get_or t i 0) is low within (ap (λ j. get_or t j 0) place)

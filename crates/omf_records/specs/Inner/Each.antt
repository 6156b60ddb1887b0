-- Items to the end: the steps of a cursor over them.
use Rattle.std.proofs.Common.{◌≡◌, ℕ, zero, suc, ◌<◌, ◌≤◌, ◌≢◌, Bool, true, false, List, [], ◌∷◌, length, Some, None, Result, Ok, Err, refl, ap, arith, is_ok, IsTrue, ◌↔◌, rules}
use Rattle.std.specs.Prelude.{⊤}
use Rattle.std.specs.Iterator.{MakesProgress, item_count}
use Rattle.std.specs.Result.{result_err}
use Rattle.omf_frame.specs.Fault.{Fault}
use Rattle.omf_records.specs.Values.{At}
use Rattle.omf_records.specs.Inner.Steps.{and_then_ok}
use Rattle.omf_records.specs.Inner.Reads.{After, Reading, Shrinks, and_then, each_read, each, or_none}

and_then_same : {A B : Type 0} (r : Result A Fault) (f g : A → Result B Fault) → ((a : A) → r ≡ Ok a → f a ≡ g a) → and_then r f ≡ and_then r g
and_then_same (Ok x) f g h = h x refl
and_then_same (Err e) f g h = refl

abbrev pub with_first : {A : Type 0} → At A → Result (List (At A)) Fault → Result (List (At A)) Fault
with_first x r = and_then r (λ xs. Ok (x ∷ xs))

abbrev pub item_at : {A : Type 0} → ℕ → After A → At A
item_at at a = record { within = at; item = a.value }

module _ {A : Type 0} (read : Reading A) (shrinks : Shrinks read) where
  -- a larger bound changes nothing
  pub each_enough : (n m at : ℕ) (bytes : List ℕ) → length bytes ≤ n → length bytes ≤ m → each_read read n at bytes ≡ each_read read m at bytes
  each_enough n m at [] hn hm = refl
  each_enough zero m at (b ∷ bytes) hn hm = absurd (omega arith)
  each_enough (suc n) zero at (b ∷ bytes) hn hm = absurd (omega arith)
  each_enough (suc n) (suc m) at (b ∷ bytes) hn hm =
      and_then_same (read at (b ∷ bytes)) _ _ (λ a e. ap (with_first (item_at at a)) (each_enough n m a.within a.rest (omega (arith, shrinks at (b ∷ bytes) a e)) (omega (arith, shrinks at (b ∷ bytes) a e))))

  -- the first item, and the others
  pub each_step : (at : ℕ) (bytes : List ℕ) (a : After A) → bytes ≢ [] → read at bytes ≡ Ok a → each read at bytes ≡ with_first (item_at at a) (each read a.within a.rest)
  each_step at [] a h e = absurd (h refl)
  each_step at (b ∷ bytes) a h e = rw e (ap (with_first (item_at at a)) (each_enough (length bytes) (length a.rest) a.within a.rest (omega (arith, shrinks at (b ∷ bytes) a e)) (omega arith)))

  pub each_refused : (at : ℕ) (bytes : List ℕ) (f : Fault) → bytes ≢ [] → read at bytes ≡ Err f → each read at bytes ≡ Err f
  each_refused at [] f h e = absurd (h refl)
  each_refused at (b ∷ bytes) f h e = rw e refl

-- if bytes remain, so does an item
pub each_some : {A : Type 0} (read : Reading A) (at : ℕ) (bytes : List ℕ) (xs : List (At A)) → bytes ≢ [] → each read at bytes ≡ Ok xs → 1 ≤ length xs
each_some read at [] xs h e = absurd (h refl)
each_some read at (b ∷ bytes) xs h e =
    let q = and_then_ok (read at (b ∷ bytes)) _ xs e in
    let p = and_then_ok (each_read read (length bytes) q.0.within q.0.rest) _ xs q.2 in
    let d = p.2 in
    let l : xs ≡ item_at at q.0 ∷ p.0 = cc in
    rw l (omega arith)

pub each_none : {A : Type 0} (read : Reading A) (at : ℕ) (bytes : List ℕ) → bytes ≡ [] → each read at bytes ≡ Ok []
each_none read at [] h = refl
each_none read at (b ∷ bytes) h = absurd cc

pub with_first_ok : {A : Type 0} (x : At A) (r : Result (List (At A)) Fault) → is_ok (with_first x r) ≡ true → is_ok r ≡ true
with_first_ok x (Ok xs) h = refl
with_first_ok x (Err e) h = absurd cc

pub with_first_items : {A : Type 0} (x : At A) (r : Result (List (At A)) Fault) → is_ok r ≡ true → or_none (with_first x r) ≡ x ∷ or_none r
with_first_items x (Ok xs) h = refl
with_first_items x (Err e) h = absurd cc

pub with_first_fault : {A : Type 0} (x : At A) (r : Result (List (At A)) Fault) → result_err (with_first x r) ≡ result_err r
with_first_fault x (Ok xs) = refl
with_first_fault x (Err e) = refl

pub no_fault : {A : Type 0} (r : Result (List A) Fault) → result_err r ≡ None → (is_ok r ≡ true) × (Ok (or_none r) ≡ r)
no_fault (Ok xs) h = (refl, refl)
no_fault (Err e) h = absurd cc

pub same_fault : {A : Type 0} (r : Result A Fault) (e : Fault) → result_err r ≡ Some e → r ≡ Err e
same_fault (Ok x) e h = absurd cc
same_fault (Err f) e h = cc

pub not_yet : (b : Bool) (P : Type 0) → (IsTrue b ↔ P) → b ≡ false → P → ⊥
not_yet b P h e p = let t : b ≡ true = search (rules, h.1 p) in absurd cc

pub shorter : {A : Type 0} (xs ys : List A) (x y : A) → xs ≡ x ∷ ys → MakesProgress (λ _. ⊤) (item_count (λ (s : List A). s)) xs (Some y) ys
shorter xs ys x y e = let h : length ys < length xs = rw e (omega arith) in record { on = λ _. (tt, tt, h); keeps = tt; rests = λ _. tt }

-- the first item and the others, in a record of one width
pub each_turn : {A : Type 0} (read : Bool → Reading A) (shrinks : (w : Bool) → Shrinks (read w)) (w v : Bool) (at : ℕ) (bytes : List ℕ) (a : After A) → v ≡ w → bytes ≢ [] → read w at bytes ≡ Ok a → each (read w) at bytes ≡ with_first (item_at at a) (each (read v) a.within a.rest)
each_turn read shrinks w v at bytes a same h e = rw same (each_step (read w) (shrinks w) at bytes a h e)

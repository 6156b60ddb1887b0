-- The fix data bytes that are valid and name no thread.
use Rattle.std.proofs.Common.{◌≡◌, ℕ, ◌/◌, ◌%◌, ◌<◌, Bool, true, false, List, [], ◌∷◌, refl, ap, arith}
use Rattle.std.specs.Prelude.{◌^◌, ◌==◌, ◌&&◌, ◌||◌, not}
use Rattle.std.proofs.lemmas.Bool.{agree_below_at, and_parts}
use Rattle.omf_frame.specs.declared.fault.Reason.{Reason}
use Rattle.omf_records.specs.Entries.{wrong_methods}
use Rattle.omf_records.specs.Values.{frame_by_thread, target_by_thread}

is_nil : List Reason → Bool
is_nil [] = true
is_nil (r ∷ rs) = false

nil : (rs : List Reason) → is_nil rs ≡ true → rs ≡ []
unfolding is_nil
nil [] e = refl
nil (r ∷ rs) e = absurd cc

unset : (b : Bool) → not b ≡ true → b ≡ false
unset true e = absurd cc
unset false e = refl

right : ℕ → Bool
right fix = is_nil (wrong_methods fix) && (not (frame_by_thread fix) && not (target_by_thread fix))

own : ℕ → Bool
own fix = not ((55 / 2 ^ (fix / 16) % 2 == 1) && (119 / 2 ^ (fix % 16) % 2 == 1)) || right fix

then : (a b r : Bool) → a ≡ true → b ≡ true → (not (a && b) || r) ≡ true → r ≡ true
then true true r p q e = e
then true false r p q e = absurd cc
then false b r p q e = absurd cc

one : (n : ℕ) → n < 2 → (n ≡ 0 → ⊥) → n ≡ 1
one n low some = omega arith

pub odd : (n : ℕ) → (n % 2 ≡ 0 → ⊥) → (n % 2 == 1) ≡ true
odd n some = ap (λ (x : ℕ). x == 1) (one (n % 2) (omega arith) some)

module _ (fix : ℕ) (byte : fix < 256) (frame : (55 / 2 ^ (fix / 16) % 2 == 1) ≡ true) (target : (119 / 2 ^ (fix % 16) % 2 == 1) ≡ true) where
  all : right fix ≡ true
  unfolding own right is_nil
  all = then _ _ (right fix) frame target (agree_below_at own (λ n. true) 256 fix refl byte)

  pub own-methods : wrong_methods fix ≡ []
  unfolding right
  own-methods = nil (wrong_methods fix) (and_parts _ _ all).0

  pub own-frame : frame_by_thread fix ≡ false
  unfolding right
  own-frame = unset (frame_by_thread fix) (and_parts _ _ (and_parts _ _ all).1).0

  pub own-target : target_by_thread fix ≡ false
  unfolding right
  own-target = unset (target_by_thread fix) (and_parts _ _ (and_parts _ _ all).1).1

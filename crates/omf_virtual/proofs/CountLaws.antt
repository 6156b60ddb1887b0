-- The number of records up to the last LNAMES or LLNAMES.
use Rattle.std.proofs.Common.{◌≡◌, ◌∙◌, ℕ, ◌+◌, ◌≤◌, Bool, true, false, cond, List, [], ◌∷◌, length, refl, sym, ap, arith}
use Rattle.std.specs.Prelude.{◌||◌}
use Rattle.std.specs.List.{list_any}
use Rattle.omf_frame.specs.Framing.{Raw}
use Rattle.omf_virtual.specs.Virtual.{front_count, is_naming}

abbrev pub has_names : List Raw → Bool
has_names rs = list_any (λ x. is_naming x.kind) rs

-- after n records, the count unless these have names
abbrev pub last_count : ℕ → ℕ → List Raw → ℕ
last_count at count rs = cond (has_names rs) (at + front_count rs) count

step : (s a : Bool) (at count rest : ℕ) → cond (s || a) (at + cond a (1 + rest) 1) count ≡ cond a (at + 1 + rest) (cond s (at + 1) count)
step true true at count rest = omega arith
step false true at count rest = omega arith
step true false at count rest = refl
step false false at count rest = refl

pub last_more : (at count : ℕ) (r : Raw) (rs : List Raw) → last_count at count (r ∷ rs) ≡ last_count (at + 1) (cond (is_naming r.kind) (at + 1) count) rs
last_more at count r rs = step (is_naming r.kind) (has_names rs) at count (front_count rs)

first : (s a : Bool) (rest : ℕ) → cond a (1 + rest) 1 ≡ cond (s || a) (0 + cond a (1 + rest) 1) 1
first true true rest = omega arith
first false true rest = omega arith
first true false rest = refl
first false false rest = refl

pub last_start : (rs : List Raw) (count : ℕ) → (length rs ≡ 0 → count ≡ 0) → (1 ≤ length rs → count ≡ 1) → front_count rs ≡ last_count 0 count rs
last_start [] count none some = sym (none refl)
last_start (r ∷ rs) count none some =
    let one : count ≡ 1 = some (omega arith) in
    first (is_naming r.kind) (has_names rs) (front_count rs) ∙ ap (λ c. cond (has_names (r ∷ rs)) (0 + front_count (r ∷ rs)) c) (sym one)

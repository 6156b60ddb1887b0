-- Pages.
use Rattle.std.proofs.Common.{◌≡◌, ℕ, zero, suc, ◌+◌, ◌-◌, ◌*◌, ◌/◌, ◌%◌, ◌<◌, ◌≤◌, Bool, true, false, List, [], ◌∷◌, refl, arith}
use Rattle.std.proofs.Math.Nat.{lt-div-mul-add, mul-mod_left, div-mul-le_self, mod_self}
use Rattle.std.specs.Prelude.{◌==◌, ◌||◌, ◌&&◌}
use Rattle.std.proofs.Math.Dec.{leb}
use Rattle.std.proofs.lemmas.Bool.{leb-true, eqb-true}
use Rattle.omf_frame.specs.Bytes.{is_one_of}
use Rattle.omf_library.specs.Library.{is_page_size, next_page}

-- a page has a byte
pub page_filled : (page : ℕ) → is_page_size page ≡ true → 0 < page
page_filled zero e = absurd cc
page_filled (suc n) e = omega arith

-- the next page is at the offset or after it, and less than a page after it
pub next_after : (page at : ℕ) → 0 < page → at ≤ next_page page at
next_after page at h = let low : at + (page - 1) < (at + (page - 1)) / page * page + page = lt-div-mul-add h in omega (arith, low, h)

pub next_near : (page at : ℕ) → 0 < page → next_page page at < at + page
next_near page at h = let low : (at + (page - 1)) / page * page ≤ at + (page - 1) = div-mul-le_self (at + (page - 1)) page in omega (arith, low, h)

pub next_paged : (page at : ℕ) → next_page page at % page ≡ 0
next_paged page at = mul-mod_left ((at + (page - 1)) / page) page

pub self_mod : (n : ℕ) → n % n ≡ 0
self_mod n = mod_self n

-- where all of a list are 16 or more, so is each
all_high : List ℕ → Bool
all_high [] = true
all_high (n ∷ ns) = leb 16 n && all_high ns

both_true : (x y : Bool) → (x && y) ≡ true → (x ≡ true) × (y ≡ true)
both_true true y h = (refl, h)
both_true false y h = absurd cc

one_high : (ns : List ℕ) (k : ℕ) → is_one_of ns k ≡ true → all_high ns ≡ true → 16 ≤ k
unfolding all_high
one_high [] k h a = absurd cc
one_high (n ∷ ns) k h a =
    let parts = both_true (leb 16 n) (all_high ns) a in
    by (n == k) refl h (leb-true 16 n parts.0) (λ t. one_high ns k t parts.1)
  where
    by : (b : Bool) → n == k ≡ b → (b || is_one_of ns k) ≡ true → 16 ≤ n → (is_one_of ns k ≡ true → 16 ≤ k) → 16 ≤ k
    by true e t low others = let same : n ≡ k = eqb-true n k e in omega (arith, low, same)
    by false e t low others = others t

pub page_high : (page : ℕ) → is_page_size page ≡ true → 16 ≤ page
unfolding all_high
page_high page h = one_high (16 ∷ 32 ∷ 64 ∷ 128 ∷ 256 ∷ 512 ∷ 1024 ∷ 2048 ∷ 4096 ∷ 8192 ∷ 16384 ∷ 32768 ∷ []) page h refl

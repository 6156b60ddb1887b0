-- Definitions on bytes and lists that the other files share.
use Rattle.std.specs.Prelude.{ℕ, ◌≡◌, ◌-◌, ◌/◌, ◌%◌, ◌^◌, ◌<◌, Bool, ◌==◌, List, [], ◌∷◌, ◌++◌, Option, Some, None, Result, OnOk, nat_le, slice_index, if◌then◌else◌}
use Rattle.std.specs.List.{last_or, list_any}

-- each number of the list is a byte
abbrev pub AreBytes : List ℕ → Type 0
AreBytes bytes = (i : ℕ) → slice_index bytes i < 256

-- the `count` bits of n from bit `low` on, as a number
abbrev pub bits : ℕ → ℕ → ℕ → ℕ
bits n low count = n / 2 ^ low % 2 ^ count

-- whether bit k of n is set
abbrev pub has_bit : ℕ → ℕ → Bool
has_bit n k = bits n k 1 == 1

-- a - b, unless it is negative
abbrev pub difference : ℕ → ℕ → Option ℕ
difference a b = if nat_le b a then Some (a - b) else None

-- whether n is in the list
abbrev pub is_one_of : List ℕ → ℕ → Bool
is_one_of ns n = list_any (λ k. k == n) ns

-- the last element
abbrev pub last : {A : Type 0} → List A → Option A
last xs = last_or None xs

-- f applied to each element and all elements before it, starting with `before`; the results joined
abbrev pub with_before : {A B : Type 0} → (List A → A → List B) → List A → List A → List B
with_before f before [] = []
with_before f before (x ∷ xs) = f before x ++ with_before f (before ++ x ∷ []) xs

-- f applied to each element and all elements after it; the results joined
abbrev pub with_after : {A B : Type 0} → (A → List A → List B) → List A → List B
with_after f [] = []
with_after f (x ∷ xs) = f x xs ++ with_after f xs

-- the elements before the first that passes the test
abbrev pub up_to : {A : Type 0} → (A → Bool) → List A → List A
up_to test [] = []
up_to test (x ∷ xs) = if test x then [] else x ∷ up_to test xs

-- if the call succeeds, `new` is `old` with `more` appended
abbrev pub AddsText : {A E : Type 0} → Result A E → List ℕ → List ℕ → List ℕ → Type 0
AddsText result old new more = OnOk result (new ≡ old ++ more)

-- A list is a prefix of another, and what a vector keeps while it is appended to.
use Rattle.std.proofs.Common.{◌≡◌, ◌+◌, ◌<◌, ◌≤◌, ℕ, List, [], ◌++◌, length, take, refl, sym, ap, ◌∙◌, append_assoc}
use native.Mathlib.Omega.{arith}
use Rattle.std.specs.Prelude.{Vec, vec_len, vec_capacity}
use Rattle.std.proofs.lemmas.List.{take_at, append-nil, length-append}

pub record Begins (old new : List ℕ) : Type 0 where
  pub more : List ℕ
  pub is : new ≡ old ++ more

pub begins_itself : (old new : List ℕ) → new ≡ old → Begins old new
begins_itself old new e = record { more = []; is = e ∙ sym (append-nil old) }

pub begins_more : (old more new : List ℕ) → new ≡ old ++ more → Begins old new
begins_more old more new e = record { more = more; is = e }

pub begins_then : (old mid new : List ℕ) → Begins old mid → Begins mid new → Begins old new
begins_then old mid new a b = record { more = a.more ++ b.more; is = b.is ∙ ap (λ (x : List ℕ). x ++ b.more) a.is ∙ append_assoc old a.more b.more }

-- the prefix is the old list
pub begins_front : (old new : List ℕ) → Begins old new → take (length old) new ≡ old
begins_front old new a = ap (take (length old)) a.is ∙ take_at old a.more (length old) refl

module _ {Z : Type 0} where
  -- Bytes were appended to a vector, and its capacity did not shrink.
  abbrev pub Grows : Vec ℕ Z → Vec ℕ Z → Type 0
  Grows old new = Begins old.items new.items × (vec_capacity old ≤ vec_capacity new)

  -- A vector has no room for the bytes and eleven more: a fixup asks for room for its largest size.
  abbrev pub Lacks : Vec ℕ Z → List ℕ → Type 0
  Lacks old bytes = vec_capacity old < vec_len old + (length bytes + 11)

  pub grows_then : (old mid new : Vec ℕ Z) → Grows old mid → Grows mid new → Grows old new
  grows_then old mid new a b = (begins_then old.items mid.items new.items a.0 b.0, omega (arith, a.1, b.1))

  -- what is missing later was missing at first
  pub lacks_left : (old mid : Vec ℕ Z) (all bytes rest : List ℕ) → mid.items ++ (bytes ++ rest) ≡ old.items ++ all → Grows old mid → Lacks mid bytes → Lacks old all
  lacks_left old mid all bytes rest e a b =
      let joined = sym (length-append mid.items (bytes ++ rest)) ∙ ap length e ∙ length-append old.items all in
      omega (arith, joined, length-append bytes rest, old.ok.0, mid.ok.0, a.1, b)

  pub lacks_then : (old mid : Vec ℕ Z) (first second : List ℕ) → mid.items ≡ old.items ++ first → Grows old mid → Lacks mid second → Lacks old (first ++ second)
  lacks_then old mid first second e a b =
      let joined = ap length e ∙ length-append old.items first in
      omega (arith, joined, length-append first second, old.ok.0, mid.ok.0, a.1, b)

  pub lacks_front : (old : Vec ℕ Z) (first second : List ℕ) → Lacks old first → Lacks old (first ++ second)
  lacks_front old first second a = omega (arith, length-append first second, a)

  -- a fixup asks for eleven bytes, a reference for nine
  pub lacks_fixup : (old : Vec ℕ Z) (bytes : List ℕ) → vec_capacity old < vec_len old + 11 → Lacks old bytes
  lacks_fixup old bytes a = omega (arith, a)

  pub lacks_reference : (old : Vec ℕ Z) (bytes : List ℕ) → vec_capacity old < vec_len old + 9 → Lacks old bytes
  lacks_reference old bytes a = omega (arith, a)

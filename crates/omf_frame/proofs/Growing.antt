-- How the record at hand grows.
use Rattle.std.proofs.Common.{◌≡◌, ℕ, suc, ◌+◌, ◌-◌, ◌*◌, ◌≤◌, ◌<◌, get_or, min, None, List, [], ◌∷◌, ◌++◌, length, take, refl, sym, ap, ◌∙◌, arith}
use Rattle.std.proofs.Math.Seq.{take-append-add}
use Rattle.std.proofs.lemmas.List.{take_min, length-take}
use Rattle.omf_frame.specs.Framing.{present, record_len}
use Rattle.omf_frame.specs.Inner.Judging.{type_fault}

-- what is there of a record is as much as its length says
pub present_is : (bytes : List ℕ) → take (record_len bytes) bytes ≡ present bytes
present_is [] = refl
present_is (t ∷ []) = refl
present_is (t ∷ lo ∷ []) = refl
present_is (t ∷ lo ∷ hi ∷ bytes) = let e : 3 + (lo + 256 * hi) ≡ suc (suc (suc (lo + 256 * hi))) = omega arith in rw e refl

-- more bytes do not shorten the record
pub short_joined : (a b : List ℕ) → length a ≤ record_len a → length a ≤ record_len (a ++ b)
short_joined [] b h = omega arith
short_joined (k ∷ []) [] h = h
short_joined (k ∷ []) (l ∷ []) h = omega arith
short_joined (k ∷ []) (l ∷ g ∷ b) h = omega arith
short_joined (k ∷ l ∷ []) [] h = h
short_joined (k ∷ l ∷ []) (g ∷ b) h = omega arith
short_joined (k ∷ l ∷ g ∷ a) b h = h

-- after one byte
pub short_behind_one : (a b : List ℕ) → length a ≡ 1 → length b < 2 → 3 ≡ record_len (a ++ b)
short_behind_one [] b h g = absurd (omega arith)
short_behind_one (k ∷ []) [] h g = refl
short_behind_one (k ∷ []) (l ∷ []) h g = refl
short_behind_one (k ∷ []) (l ∷ m ∷ b) h g = absurd (omega arith)
short_behind_one (k ∷ l ∷ a) b h g = absurd (omega arith)

pub long_behind_one : (a b : List ℕ) (n : ℕ) → length a ≡ 1 → 2 ≤ length b → n ≡ 3 + (get_or b 0 0 + 256 * get_or b 1 0) → n ≡ record_len (a ++ b)
long_behind_one [] b n h g e = absurd (omega arith)
long_behind_one (k ∷ []) [] n h g e = absurd (omega arith)
long_behind_one (k ∷ []) (l ∷ []) n h g e = absurd (omega arith)
long_behind_one (k ∷ []) (l ∷ m ∷ b) n h g e = e
long_behind_one (k ∷ l ∷ a) b n h g e = absurd (omega arith)

-- what is appended completes the record, as far as there are bytes
pub grown : (a b : List ℕ) → length a ≤ record_len a → a ++ take (min (record_len (a ++ b) - length a) (length b)) b ≡ present (a ++ b)
grown a b h =
    let m = record_len (a ++ b) - length a in
    let le = short_joined a b h in
    let n : record_len (a ++ b) ≡ length a + m = omega arith in
    ap (λ t. a ++ t) (take_min m b) ∙ sym (take-append-add a b m) ∙ ap (λ k. take k (a ++ b)) (sym n) ∙ present_is (a ++ b)

pub is_short : (bytes : List ℕ) → length (present bytes) ≤ record_len (present bytes)
is_short [] = omega arith
is_short (k ∷ []) = omega arith
is_short (k ∷ l ∷ []) = omega arith
is_short (k ∷ l ∷ m ∷ bytes) = omega (arith, length-take (l + 256 * m) bytes)

pub length_present : (bytes : List ℕ) → length (present bytes) ≡ min (record_len bytes) (length bytes)
length_present bytes = ap length (sym (present_is bytes)) ∙ length-take (record_len bytes) bytes

-- the record keeps its type
pub type_same : (bytes : List ℕ) → type_fault bytes ≡ type_fault (present bytes)
unfolding type_fault
type_same [] = refl
type_same (k ∷ []) = refl
type_same (k ∷ l ∷ []) = refl
type_same (k ∷ l ∷ m ∷ bytes) = refl

pub type_at_start : (a b : List ℕ) → length a ≡ 0 → type_fault b ≡ type_fault (present (a ++ b))
type_at_start [] b h = type_same b
type_at_start (k ∷ a) b h = absurd (omega arith)

pub type_later : (a b : List ℕ) → 0 < length a → type_fault a ≡ None → None ≡ type_fault (present (a ++ b))
unfolding type_fault
type_later [] b h e = absurd (omega arith)
type_later (k ∷ a) b h e = sym e ∙ type_same (k ∷ a ++ b)

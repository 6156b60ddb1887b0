-- The numbers after the mark of a communal length.
use Rattle.std.proofs.Common.{◌≡◌, inl, inr, ℕ, zero, suc, ◌+◌, ◌-◌, ◌^◌, ◌<◌, ◌≤◌, List, [], ◌∷◌, ◌++◌, length, take, drop, get_or, arith, drop-cons, add-one}
use Rattle.std.proofs.Math.Nat.{pow-le-pow_right}
use Rattle.byteorder.specs.Endian.{little_number}
use Rattle.byteorder.specs.Numbers.{little_from-lt}
use Rattle.omf_frame.specs.Inner.FieldLaws.{are_bytes_none, are_bytes_cons}
use Rattle.omf_frame.specs.Bytes.{AreBytes}
use Rattle.omf_frame.specs.Fields.{IsCommunalLength, IsLittle, IsUnspelled}

are_bytes_take : (n : ℕ) (bs : List ℕ) → AreBytes bs → AreBytes (take n bs)
are_bytes_take zero bs h = are_bytes_none
are_bytes_take (suc n) [] h = are_bytes_none
are_bytes_take (suc n) (b ∷ bs) h = are_bytes_cons b (take n bs) (h 0) (are_bytes_take n bs (λ i. h (suc i)))

are_bytes_drop : (n : ℕ) (bs : List ℕ) → AreBytes bs → AreBytes (drop n bs)
are_bytes_drop zero bs h = h
are_bytes_drop (suc n) [] h = are_bytes_none
are_bytes_drop (suc n) (b ∷ bs) h = are_bytes_drop n bs (λ i. h (suc i))

-- at most four bytes fit 32 bits
pub number_of_few : (k : ℕ) (src : List ℕ) (pos : ℕ) → k ≤ 4 → AreBytes src → (x : ℕ) → x ≡ little_number k (take (pos + k - pos) (drop pos src)) → x < 2 ^ 32
number_of_few k src pos few fit x e =
    let low = little_from-lt 0 k (take (pos + k - pos) (drop pos src)) (are_bytes_take (pos + k - pos) (drop pos src) (are_bytes_drop pos src fit)) in
    let top = pow-le-pow_right {n = 256} (omega arith) few in
    omega (arith, e)

two : (x p : ℕ) (a : List ℕ) → p ≡ 129 → IsCommunalLength x (p ∷ a) → IsLittle 2 x a
two x p a e (inl h) = absurd (omega arith)
two x p a e (inr (inl h)) = h.1
two x p a e (inr (inr (inl h))) = absurd (omega arith)
two x p a e (inr (inr (inr h))) = absurd (omega arith)

three : (x p : ℕ) (a : List ℕ) → p ≡ 132 → IsCommunalLength x (p ∷ a) → IsLittle 3 x a
three x p a e (inl h) = absurd (omega arith)
three x p a e (inr (inl h)) = absurd (omega arith)
three x p a e (inr (inr (inl h))) = h.1
three x p a e (inr (inr (inr h))) = absurd (omega arith)

four : (x p : ℕ) (a : List ℕ) → p ≡ 136 → IsCommunalLength x (p ∷ a) → IsLittle 4 x a
four x p a e (inl h) = absurd (omega arith)
four x p a e (inr (inl h)) = absurd (omega arith)
four x p a e (inr (inr (inl h))) = absurd (omega arith)
four x p a e (inr (inr (inr h))) = h.1

-- after the mark no number is spelled
pub none_behind : (k mark : ℕ) (src : List ℕ) (pos : ℕ) → pos < length src → get_or src pos 0 ≡ mark → ((x p : ℕ) (a : List ℕ) → p ≡ mark → IsCommunalLength x (p ∷ a) → IsLittle k x a)
    → IsUnspelled (λ n bytes. IsLittle k n bytes) (drop (pos + 1) src) → (x : ℕ) (front back : List ℕ) → IsCommunalLength x front → drop pos src ≡ front ++ back → ⊥
none_behind k mark src pos lt is form none x [] back h e = h
none_behind k mark src pos lt is form none x (p ∷ a) back h e =
    let d = drop-cons src pos 0 lt in
    let f : p ≡ mark = cc in
    let r : drop (pos + 1) src ≡ a ++ back = rw add-one (cc) in
    none x a back (form x p a f h) r

pub two_none : (src : List ℕ) (pos : ℕ) → pos < length src → get_or src pos 0 ≡ 129 → IsUnspelled (λ n bytes. IsLittle 2 n bytes) (drop (pos + 1) src) → (x : ℕ) (front back : List ℕ) → IsCommunalLength x front → drop pos src ≡ front ++ back → ⊥
two_none src pos lt is none = none_behind 2 129 src pos lt is two none

pub three_none : (src : List ℕ) (pos : ℕ) → pos < length src → get_or src pos 0 ≡ 132 → IsUnspelled (λ n bytes. IsLittle 3 n bytes) (drop (pos + 1) src) → (x : ℕ) (front back : List ℕ) → IsCommunalLength x front → drop pos src ≡ front ++ back → ⊥
three_none src pos lt is none = none_behind 3 132 src pos lt is three none

pub four_none : (src : List ℕ) (pos : ℕ) → pos < length src → get_or src pos 0 ≡ 136 → IsUnspelled (λ n bytes. IsLittle 4 n bytes) (drop (pos + 1) src) → (x : ℕ) (front back : List ℕ) → IsCommunalLength x front → drop pos src ≡ front ++ back → ⊥
four_none src pos lt is none = none_behind 4 136 src pos lt is four none

-- What follows a module.
use Rattle.std.proofs.Common.{ℕ, ◌≤◌, Bool, true, false, List, [], ◌∷◌, length, arith}
use Rattle.std.specs.Prelude.{◌==◌, if◌then◌else◌}
use Rattle.omf_frame.specs.Bytes.{AreBytes}
use Rattle.omf_frame.proofs.ModuleLaws.{bytes_behind}
use Rattle.omf_linking.specs.Reading.{unpadded, without}

-- bytes without padding are no more than they were
by_test_within : (b : Bool) (n : ℕ) (xs ys : List ℕ) → length xs ≤ n → length ys ≤ n → length (if b then xs else ys) ≤ n
by_test_within true n xs ys h i = h
by_test_within false n xs ys h i = i

without_within : (v : ℕ) (bs : List ℕ) → length (without v bs) ≤ length bs
without_within v [] = omega arith
without_within v (b ∷ bs) = let less = without_within v bs in by_test_within (b == v) (length (b ∷ bs)) (without v bs) (b ∷ bs) (omega (arith, less)) (omega arith)

pub unpadded_within : (bs : List ℕ) → length (unpadded bs) ≤ length bs
unpadded_within [] = omega arith
unpadded_within (b ∷ bs) =
    by_test_within (b == 0x00) (length (b ∷ bs)) (without 0x00 (b ∷ bs)) (if b == 0x1A then without 0x1A (b ∷ bs) else b ∷ bs) (without_within 0x00 (b ∷ bs))
    (by_test_within (b == 0x1A) (length (b ∷ bs)) (without 0x1A (b ∷ bs)) (b ∷ bs) (without_within 0x1A (b ∷ bs)) (omega arith))

-- they are bytes still
by_test_small : (b : Bool) (xs ys : List ℕ) → AreBytes xs → AreBytes ys → AreBytes (if b then xs else ys)
by_test_small true xs ys h i = h
by_test_small false xs ys h i = i

without_small : (v : ℕ) (bs : List ℕ) → AreBytes bs → AreBytes (without v bs)
without_small v [] h = h
without_small v (b ∷ bs) h = by_test_small (b == v) (without v bs) (b ∷ bs) (without_small v bs (bytes_behind (b ∷ []) bs h)) h

pub unpadded_small : (bs : List ℕ) → AreBytes bs → AreBytes (unpadded bs)
unpadded_small [] h = h
unpadded_small (b ∷ bs) h =
    by_test_small (b == 0x00) (without 0x00 (b ∷ bs)) (if b == 0x1A then without 0x1A (b ∷ bs) else b ∷ bs) (without_small 0x00 (b ∷ bs) h)
    (by_test_small (b == 0x1A) (without 0x1A (b ∷ bs)) (b ∷ bs) (without_small 0x1A (b ∷ bs) h) h)

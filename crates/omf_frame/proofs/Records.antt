-- The record that a whole record's bytes are.
use Rattle.std.proofs.Common.{◌≡◌, ◌⊎◌, inl, inr, ℕ, suc, ◌+◌, ◌*◌, ◌-◌, ◌%◌, ◌<◌, ◌≤◌, Bool, true, false, not, ◌||◌, get_or, List, [], ◌∷◌, Some, None, Err, length, sum, refl, arith}
use Rattle.std.specs.Prelude.{◌==◌, nat_le, slice_index}
use borrow.Author.Tests.{eqb-true, eqb-false, leb-true}
use Rattle.omf_frame.specs.Inner.Names.{is_unsupported}
use Rattle.omf_frame.specs.declared.fault.Reason.TheVariants.{NoEnd, Cut}
use Rattle.omf_frame.specs.Bytes.{AreBytes}
use Rattle.omf_frame.specs.Fault.{Fault}
use Rattle.omf_frame.specs.declared.fault.Reason.{Reason}
use Rattle.omf_frame.specs.declared.fault.FrameFault.TheVariants.{Refused}
use Rattle.omf_frame.specs.Framer.{Held, stop_of}
use Rattle.omf_frame.specs.Framing.{IsRecord, raw_bytes, front_record, is_whole, is_taken, is_header, frame_fault, standing_fault, record_len}
use Rattle.omf_frame.proofs.Judged.{all_hold, cut_tests}
use Rattle.omf_frame.proofs.FramingLaws.{raw_front, body_length}

pub small : (bytes : List ℕ) → AreBytes bytes → length bytes ≤ record_len bytes → length bytes ≤ 65538
small [] fit h = omega arith
small (t ∷ []) fit h = omega arith
small (t ∷ lo ∷ []) fit h = omega arith
small (t ∷ lo ∷ hi ∷ rest) fit h = let low : lo < 256 = fit 1 in let high : hi < 256 = fit 2 in omega arith

either_of : (a b : Bool) → a || b ≡ true → (a ≡ true) ⊎ (b ≡ true)
either_of true b h = inl refl
either_of false b h = inr h

checked_is : (c : ℕ) (bytes : List ℕ) → (c == 0) || (sum bytes % 256 == 0) ≡ true → (c ≡ 0) ⊎ (sum bytes % 256 ≡ 0)
checked_is c bytes h = elim (either_of (c == 0) (sum bytes % 256 == 0) h) [ inl a ↦ inl (eqb-true _ _ a) | inr b ↦ inr (eqb-true _ _ b) ]

-- what is whole and without fault is a record, and the bytes are its bytes
pub record_at : (f : Bool) (bytes : List ℕ) → AreBytes bytes → length bytes ≤ record_len bytes → is_whole bytes ≡ true → standing_fault f bytes ≡ None
    → IsRecord (front_record bytes) × (raw_bytes (front_record bytes) ≡ bytes) × (frame_fault f bytes ≡ None)
record_at f [] fit short whole sound = cc
record_at f (t ∷ []) fit short whole sound = cc
record_at f (t ∷ lo ∷ []) fit short whole sound = cc
record_at f (t ∷ lo ∷ hi ∷ rest) fit short whole sound =
    let n : ℕ = lo + 256 * hi in
    let bytes : List ℕ = t ∷ lo ∷ hi ∷ rest in
    let low : lo < 256 = fit 1 in
    let high : hi < 256 = fit 2 in
    let tests = all_hold (is_taken t) (is_unsupported t) (nat_le n (length rest)) (n == 0) ((slice_index bytes (2 + n) == 0) || (sum bytes % 256 == 0)) (not f || is_header t) (length bytes) (2 + n) whole sound in
    let some = eqb-false n 0 tests.1 in
    let enough = leb-true n (length rest) whole in
    let exact : length rest ≡ n = omega arith in
    let positive : 0 < n = omega arith in
    let spelled : raw_bytes (front_record bytes) ≡ bytes = raw_front t lo hi rest low high positive exact in
    let counted : length (front_record bytes).body + 1 ≡ n = body_length t lo hi rest low high positive exact in
    let last : 2 + n ≡ suc (suc (suc (n - 1))) = omega arith in
    let checked : (get_or rest (n - 1) 0 ≡ 0) ⊎ (sum bytes % 256 ≡ 0) = rw last at (checked_is (slice_index bytes (2 + n)) bytes tests.2) in
    let fits : length (front_record bytes).body + 1 < 65536 = omega arith in
    ((fits, rw spelled checked), spelled, tests.3)

-- a part of a record that has no permanent fault is cut
pub cut_at : (f : Bool) (bytes : List ℕ) (within : ℕ) → within ≡ length bytes → 0 < within → is_whole bytes ≡ false → standing_fault f bytes ≡ None
    → frame_fault f bytes ≡ Some (record { within = within; reason = Cut })
cut_at f [] within e some w sound = absurd (omega arith)
cut_at f (t ∷ []) within e some w sound =
    rw e (cut_tests (is_taken t) (is_unsupported t) false true ((slice_index (t ∷ []) 2 == 0) || (sum (t ∷ []) % 256 == 0)) (not f || is_header t) 1 2 refl sound)
cut_at f (t ∷ lo ∷ []) within e some w sound =
    rw e (cut_tests (is_taken t) (is_unsupported t) false true ((slice_index (t ∷ lo ∷ []) 2 == 0) || (sum (t ∷ lo ∷ []) % 256 == 0)) (not f || is_header t) 2 2 refl sound)
cut_at f (t ∷ lo ∷ hi ∷ rest) within e some w sound =
    rw e (cut_tests (is_taken t) (is_unsupported t) (nat_le (lo + 256 * hi) (length rest)) (lo + 256 * hi == 0) _ _ _ _ w sound)

-- where no byte is there, the input has ended
pub empty_at : (f : Bool) (bytes : List ℕ) (within : ℕ) → within ≡ length bytes → within ≡ 0 → frame_fault f bytes ≡ Some (record { within = within; reason = NoEnd })
empty_at f [] within e z = rw z refl
empty_at f (b ∷ bytes) within e z = absurd (omega arith)

-- an input that ends there has this fault
pub stops_with : (held now : Held) (r : Reason) (fault : Fault) → held ≡ now → r ≡ fault.reason → held.fault ≡ None → held.ended ≡ false
    → frame_fault (held.number == 0) held.bytes ≡ Some fault
    → Err (Refused r (record { number = held.number; start = held.start; within = fault.within })) ≡ stop_of now
stops_with held now r fault v q n e h = rw (← v, q, n, e, h) refl

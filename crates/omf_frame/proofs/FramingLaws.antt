-- A record at the front of bytes is found again.
use Rattle.std.proofs.Common.{◌≡◌, ℕ, zero, suc, ◌+◌, ◌*◌, ◌-◌, ◌/◌, ◌%◌, ◌<◌, ◌≤◌, List, [], ◌∷◌, ◌++◌, refl, sym, ◌∙◌, ap, length, take, arith, length-append}
use Rattle.std.specs.Prelude.{slice_index}
use Rattle.std.proofs.Math.Nat.{sub_self}
use Rattle.std.proofs.lemmas.List.{take_at, drop_at, get_or-append_right, length-take, take_more, take_all}
use Rattle.omf_frame.specs.Framing.{Raw, raw_bytes, present, after_front, front_record}

-- two bytes of a number below 2^16
two_bytes : (n : ℕ) → n < 65536 → n % 256 + 256 * (n / 256) ≡ n
two_bytes n h = omega arith

module _ (r : Raw) (h : length r.body + 1 < 65536) where
  pub stated : (length r.body + 1) % 256 + 256 * ((length r.body + 1) / 256) ≡ length r.body + 1
  stated = two_bytes (length r.body + 1) h

  pub size : length (r.body ++ r.checksum ∷ []) ≡ length r.body + 1
  size = length-append r.body (r.checksum ∷ [])

  pub after_raw : (rest : List ℕ) → after_front (raw_bytes r ++ rest) ≡ rest
  after_raw rest = drop_at (r.body ++ r.checksum ∷ []) rest _ (size ∙ sym stated)

  pub present_raw : (rest : List ℕ) → present (raw_bytes r ++ rest) ≡ raw_bytes r
  present_raw rest = ap (λ bs. r.kind ∷ (length r.body + 1) % 256 ∷ (length r.body + 1) / 256 ∷ bs) (take_at (r.body ++ r.checksum ∷ []) rest _ (size ∙ sym stated))

  body_raw : take (length r.body + 1 - 1) (r.body ++ r.checksum ∷ []) ≡ r.body
  body_raw = take_at r.body (r.checksum ∷ []) _ (omega arith)

  pub checksum_raw : slice_index (r.body ++ r.checksum ∷ []) (length r.body) ≡ r.checksum
  checksum_raw = get_or-append_right r.body (r.checksum ∷ []) (length r.body) (length r.body) 0 refl (omega arith) ∙ ap (λ k. slice_index (r.checksum ∷ []) k) (sub_self (length r.body))

  -- the record of n stated bytes
  record_of : ℕ → Raw
  record_of n = record { kind = r.kind; body = take (n - 1) (r.body ++ r.checksum ∷ []); checksum = slice_index (r.body ++ r.checksum ∷ []) (n - 1) }

  pub front_raw : front_record (raw_bytes r) ≡ r
  unfolding record_of
  front_raw =
      let one_less : length r.body + 1 - 1 ≡ length r.body = omega arith in
      ap record_of stated
      ∙ ap (λ n. record { kind = r.kind; body = take n (r.body ++ r.checksum ∷ []); checksum = slice_index (r.body ++ r.checksum ∷ []) n }) one_less
      ∙ ap (λ b. record { kind = r.kind; body = b; checksum = slice_index (r.body ++ r.checksum ∷ []) (length r.body) }) (take_at r.body (r.checksum ∷ []) _ refl)
      ∙ ap (λ c. record { kind = r.kind; body = r.body; checksum = c }) checksum_raw

-- The bytes of a whole record are those of the record that is found in them.
module _ (t lo hi : ℕ) (bytes : List ℕ) (low : lo < 256) (high : hi < 256) (some : 0 < lo + 256 * hi) (exact : length bytes ≡ lo + 256 * hi) where
  pub body_length : length (take (lo + 256 * hi - 1) bytes) + 1 ≡ lo + 256 * hi
  body_length = omega (arith, length-take (lo + 256 * hi - 1) bytes, exact)

  body_and_checksum : take (lo + 256 * hi - 1) bytes ++ slice_index bytes (lo + 256 * hi - 1) ∷ [] ≡ bytes
  body_and_checksum =
      let inside : lo + 256 * hi - 1 < length bytes = omega arith in
      let back : lo + 256 * hi - 1 + 1 ≡ lo + 256 * hi = omega arith in
      let all : length bytes ≤ lo + 256 * hi = omega arith in
      sym (take_more bytes (lo + 256 * hi - 1) 0 inside) ∙ ap (λ k. take k bytes) back ∙ take_all (lo + 256 * hi) bytes all

  pub raw_front : raw_bytes (front_record (t ∷ lo ∷ hi ∷ bytes)) ≡ t ∷ lo ∷ hi ∷ bytes
  raw_front =
      let first : (lo + 256 * hi) % 256 ≡ lo = omega arith in
      let second : (lo + 256 * hi) / 256 ≡ hi = omega arith in
      let rest : List ℕ = take (lo + 256 * hi - 1) bytes ++ slice_index bytes (lo + 256 * hi - 1) ∷ [] in
      ap (λ k. t ∷ k % 256 ∷ k / 256 ∷ rest) body_length
      ∙ ap (λ k. t ∷ k ∷ (lo + 256 * hi) / 256 ∷ rest) first
      ∙ ap (λ k. t ∷ lo ∷ k ∷ rest) second
      ∙ ap (λ bs. t ∷ lo ∷ hi ∷ bs) body_and_checksum

take_twice : (n : ℕ) (xs ys : List ℕ) → take n (take n xs ++ ys) ≡ take n (xs ++ ys)
take_twice zero xs ys = refl
take_twice (suc n) [] ys = refl
take_twice (suc n) (x ∷ xs) ys = ap (λ t. x ∷ t) (take_twice n xs ys)

-- What is there of a record does not depend on how the bytes are cut into pieces.
pub present-append : (xs ys : List ℕ) → present (present xs ++ ys) ≡ present (xs ++ ys)
present-append [] ys = refl
present-append (t ∷ []) ys = refl
present-append (t ∷ lo ∷ []) ys = refl
present-append (t ∷ lo ∷ hi ∷ xs) ys = ap (λ bs. t ∷ lo ∷ hi ∷ bs) (take_twice (lo + 256 * hi) xs ys)

-- The sizes of locations by the first byte of a FIXUP.
use Rattle.std.proofs.Common.{◌≡◌, ℕ, ◌+◌, ◌*◌, ◌/◌, ◌%◌, ◌<◌, ◌≤◌, Bool, true, false, [], get_or, is_some, refl, ap, subst, ◌∙◌, arith}
use Rattle.std.specs.Prelude.{◌==◌, ◌&&◌, ◌||◌}
use Rattle.std.proofs.lemmas.Bool.{cond-true, agree_below_at, and_parts, eqb-true, ne_eqb}
use Rattle.omf_frame.specs.declared.fault.Reason.TheVariants as reason
use Rattle.omf_records.specs.Location.{location_of, row_of}
use Rattle.omf_records.specs.Entries.{unless, wrong_location}
use Rattle.omf_records.specs.Inner.Passing.{rooms, IsWithin}
use Rattle.omf_records.specs.Values.{location_type, location_offset, is_segment_relative}

-- by the five bits: the type is defined, a self-relative one may be, and the size is that of its row
right : ℕ → Bool
right n = is_some (location_of (n % 16)) && (((n / 16 == 1) || (row_of (n % 16)).may_be_self_relative) && ((row_of (n % 16)).size == get_or rooms n 0))

fits : ℕ → Bool
fits n = (get_or rooms n 0 == 0) || right n

second : (a b : Bool) → a ≡ false → (a || b) ≡ true → b ≡ true
second true b e h = absurd cc
second false b e h = h

all-right : (n : ℕ) → n < 32 → (get_or rooms n 0 ≡ 0 → ⊥) → right n ≡ true
unfolding fits right
all-right n low some = second (get_or rooms n 0 == 0) (right n) (ne_eqb (get_or rooms n 0) 0 some) (agree_below_at fits (λ k. true) 32 n refl low)

module _ (h l : ℕ) (byte : h < 256) (low : l < 256) (some : get_or rooms (h / 4 % 32) 0 ≡ 0 → ⊥) where
  n : ℕ
  n = h / 4 % 32

  type-is : n % 16 ≡ location_type (h * 256 + l)
  unfolding n
  type-is = omega arith

  bit-is : (n / 16 == 1) ≡ is_segment_relative (h * 256 + l)
  unfolding n
  bit-is = let e : n / 16 ≡ (h * 256 + l) / 16384 % 2 = omega arith in ap (λ x. x == 1) e

  offset-is : location_offset (h * 256 + l) ≡ h % 4 * 256 + l
  offset-is = omega arith

  parts : (is_some (location_of (n % 16)) ≡ true) × (((n / 16 == 1) || (row_of (n % 16)).may_be_self_relative) ≡ true) × (((row_of (n % 16)).size == get_or rooms n 0) ≡ true)
  unfolding right n
  parts = let p = and_parts _ _ (all-right n (omega arith) some) in let q = and_parts _ _ p.1 in (p.0, q.0, q.1)

  unless-none : (b : Bool) → b ≡ true → unless b reason.SelfRelative ≡ []
  unless-none true e = refl
  unless-none false e = absurd cc

  pub right-location : wrong_location (h * 256 + l) ≡ []
  right-location =
      let defined = subst (λ k. is_some (location_of k) ≡ true) type-is parts.0 in
      let may = subst (λ b. (b || (row_of (location_type (h * 256 + l))).may_be_self_relative) ≡ true) bit-is (subst (λ k. ((n / 16 == 1) || (row_of k).may_be_self_relative) ≡ true) type-is parts.1) in
      cond-true (is_some (location_of (location_type (h * 256 + l)))) _ _ defined ∙ unless-none _ may

  pub right-end : (size : ℕ) → h % 4 * 256 + l + get_or rooms (h / 4 % 32) 0 ≤ size → IsWithin size (h * 256 + l)
  unfolding n
  right-end size fit =
      let row = subst (λ k. (row_of k).size ≡ get_or rooms (h / 4 % 32) 0) type-is (eqb-true _ _ parts.2) in
      omega (arith, row, fit, offset-is)

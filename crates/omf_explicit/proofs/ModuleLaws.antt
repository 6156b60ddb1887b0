-- The records of a module, one after another.
use Rattle.std.proofs.Common.{◌≡◌, ◌∙◌, ℕ, ◌+◌, ◌*◌, ◌-◌, ◌/◌, ◌%◌, ◌<◌, ◌≤◌, Bool, true, false, List, [], ◌∷◌, ◌++◌, refl, sym, ap, length, take, drop, arith, append_assoc, append-nil}
use Rattle.std.specs.Prelude.{slice_index, flat_map, ◌&&◌, not}
use Rattle.std.proofs.lemmas.Bool.{leb-true, eqb-false}
use Rattle.std.proofs.lemmas.Grind.{flat_map-append}
use Rattle.std.proofs.lemmas.List.{length-take, take_more, take-append-drop}
use Rattle.std.proofs.lemmas.List.Elements.{All-append, All-nil}
use Rattle.omf_frame.specs.Bytes.{AreBytes}
use Rattle.omf_frame.specs.Framing.{Raw, after_front, front_record, is_end, raw_bytes}
use Rattle.omf_frame.proofs.ModuleLaws.{all_one}
use Rattle.omf_explicit.specs.Explicit.{has_record}
use Rattle.omf_explicit.specs.Modules.{Begins, IsModule, IsOpen}

-- The bytes of a record and those after it.
module _ (t lo hi : ℕ) (bytes : List ℕ) (low : lo < 256) (high : hi < 256) (some : 0 < lo + 256 * hi) (inside : lo + 256 * hi ≤ length bytes) where
  body_length : length (take (lo + 256 * hi - 1) bytes) + 1 ≡ lo + 256 * hi
  body_length = omega (arith, length-take (lo + 256 * hi - 1) bytes, inside)

  body_and_checksum : take (lo + 256 * hi - 1) bytes ++ slice_index bytes (lo + 256 * hi - 1) ∷ [] ≡ take (lo + 256 * hi) bytes
  body_and_checksum =
      let within : lo + 256 * hi - 1 < length bytes = omega arith in
      let back : lo + 256 * hi - 1 + 1 ≡ lo + 256 * hi = omega arith in
      sym (take_more bytes (lo + 256 * hi - 1) 0 within) ∙ ap (λ k. take k bytes) back

  front_parts : raw_bytes (front_record (t ∷ lo ∷ hi ∷ bytes)) ++ drop (lo + 256 * hi) bytes ≡ t ∷ lo ∷ hi ∷ bytes
  front_parts =
      let first : (lo + 256 * hi) % 256 ≡ lo = omega arith in
      let second : (lo + 256 * hi) / 256 ≡ hi = omega arith in
      let rest : List ℕ = (take (lo + 256 * hi - 1) bytes ++ slice_index bytes (lo + 256 * hi - 1) ∷ []) ++ drop (lo + 256 * hi) bytes in
      ap (λ k. t ∷ k % 256 ∷ k / 256 ∷ rest) body_length
      ∙ ap (λ k. t ∷ k ∷ (lo + 256 * hi) / 256 ∷ rest) first
      ∙ ap (λ k. t ∷ lo ∷ k ∷ rest) second
      ∙ ap (λ bs. t ∷ lo ∷ hi ∷ bs ++ drop (lo + 256 * hi) bytes) body_and_checksum
      ∙ ap (λ bs. t ∷ lo ∷ hi ∷ bs) (take-append-drop (lo + 256 * hi) bytes)

both : (a b : Bool) → (a && b) ≡ true → (a ≡ true) × (b ≡ true)
both true b e = (refl, e)
both false b e = absurd cc

none : (b : Bool) → not b ≡ true → b ≡ false
none true e = absurd cc
none false e = refl

pub record IsFront (bytes : List ℕ) : Type 0 where
  pub spelled : bytes ≡ raw_bytes (front_record bytes) ++ after_front bytes
  pub short : length (front_record bytes).body < 65535

pub front_is : (bytes : List ℕ) → AreBytes bytes → has_record bytes ≡ true → IsFront bytes
front_is [] fit e = absurd cc
front_is (t ∷ []) fit e = absurd cc
front_is (t ∷ lo ∷ []) fit e = absurd cc
front_is (t ∷ lo ∷ hi ∷ bytes) fit e =
    let b = both _ _ e in
    let inside : lo + 256 * hi ≤ length bytes = leb-true _ _ b.0 in
    let other = eqb-false (lo + 256 * hi) 0 (none _ b.1) in
    let some : 0 < lo + 256 * hi = omega (arith, other) in
    let low : lo < 256 = fit 1 in
    let high : hi < 256 = fit 2 in
    record {
      spelled = sym (front_parts t lo hi bytes low high some inside);
      short = omega (arith, body_length t lo hi bytes low high some inside, low, high);
    }

-- the fields of a record at the front
made : ℕ → List ℕ → ℕ → Raw
made kind body sum = record { kind = kind; body = body; checksum = sum }

pub record_is : (bytes : List ℕ) (r : Raw) → r.kind ≡ (front_record bytes).kind → r.body ≡ (front_record bytes).body → r.checksum ≡ (front_record bytes).checksum → r ≡ front_record bytes
unfolding made
record_is bytes r kind body sum =
    let f = front_record bytes in
    ap (λ k. made k r.body r.checksum) kind ∙ ap (λ b. made f.kind b r.checksum) body ∙ ap (λ s. made f.kind f.body s) sum

pub front_spelled : (bytes : List ℕ) (r : Raw) (rest : List ℕ) → AreBytes bytes → has_record bytes ≡ true → r.kind ≡ (front_record bytes).kind → r.body ≡ (front_record bytes).body → r.checksum ≡ (front_record bytes).checksum
    → rest ≡ after_front bytes → bytes ≡ raw_bytes r ++ rest
front_spelled bytes r rest fit whole kind body sum after =
    (front_is bytes fit whole).spelled ∙ ap (λ x. raw_bytes x ++ after_front bytes) (sym (record_is bytes r kind body sum)) ∙ ap (λ l. raw_bytes r ++ l) (sym after)

pub front_short : (bytes : List ℕ) (r : Raw) → AreBytes bytes → has_record bytes ≡ true → r.body ≡ (front_record bytes).body → length r.body < 65535
front_short bytes r fit whole body = let small = (front_is bytes fit whole).short in omega (arith, small, ap length body)

pub begins_none : (input : List ℕ) → Begins input [] input
begins_none input = record { spelled = refl; each = All-nil IsOpen }

-- one more record
pub begins_more : (input rest after : List ℕ) (rs : List Raw) (r : Raw) → Begins input rs rest → rest ≡ raw_bytes r ++ after → length r.body < 65535 → is_end r.kind ≡ false → Begins input (rs ++ r ∷ []) after
begins_more input rest after rs r b parts short open_still = record {
  spelled = b.spelled ∙ ap (λ l. flat_map raw_bytes rs ++ l) parts ∙ sym (append_assoc (flat_map raw_bytes rs) (raw_bytes r) after)
      ∙ ap (λ l. l ++ after) (ap (λ l. flat_map raw_bytes rs ++ l) (sym (append-nil (raw_bytes r))) ∙ sym (flat_map-append raw_bytes rs (r ∷ [])));
  each = All-append IsOpen rs (r ∷ []) b.each (all_one IsOpen r (record { short = short; no_end = open_still }));
}

pub module_ends : (input rest after : List ℕ) (rs : List Raw) (r : Raw) → Begins input rs rest → rest ≡ raw_bytes r ++ after → length r.body < 65535 → is_end r.kind ≡ true → IsModule input (rs ++ r ∷ []) after
module_ends input rest after rs r b parts short ended = record {
  before = rs;
  end = r;
  are = refl;
  begins = record { spelled = b.spelled ∙ ap (λ l. flat_map raw_bytes rs ++ l) parts; each = b.each };
  short = short;
  ends = ended;
}

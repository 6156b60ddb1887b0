-- A record without a framing fault is at the front of its bytes, and the records so far with one more.
use Rattle.std.proofs.Common.{◌≡◌, ◌⊎◌, inl, inr, ℕ, ◌+◌, ◌*◌, ◌-◌, ◌/◌, ◌%◌, ◌<◌, ◌≤◌, Bool, true, false, cond, ltb, eqb, List, [], ◌∷◌, ◌++◌, Option, Some, None, refl, sym, ap, subst, ◌∙◌, length, take, drop, arith, length-append, append_assoc, append-nil}
use Rattle.std.specs.Prelude.{slice_index, IsTrue, not, flat_map, nat_lt, ◌||◌}
use Rattle.std.specs.Option.{option_or}
use Rattle.std.proofs.lemmas.Bool.{ltb-false, ltb-true, eqb-false, lt-ltb, le-ltb}
use Rattle.std.proofs.lemmas.Grind.{flat_map-append}
use Rattle.std.proofs.lemmas.List.{length-take, take_more, take-append-drop}
use Rattle.std.proofs.lemmas.List.Elements.{All-append, All-nil}
use Rattle.omf_frame.specs.Bytes.{AreBytes}
use Rattle.omf_frame.specs.Framing.{Raw, raw_bytes, after_front, front_record, is_end}
use Rattle.omf_frame.specs.declared.fault.Place.{Place}
use Rattle.omf_frame.specs.declared.fault.Reason.TheVariants as reason
use Rattle.omf_frame.proofs.ModuleLaws.{all_one}
use Rattle.omf_records.specs.Layout.{fault}
use Rattle.omf_check.specs.Rules.{item_limit}
use Rattle.omf_lowering.specs.Wide.{framing_fault, is_known, is_right}
use Rattle.omf_lowering.specs.Inner.Rolling.{IsBytesOf, IsHalt, IsHaltOf}
use Rattle.omf_lowering.specs.Inner.State.{State, IsOpen, IsRead, IsStop, added, excess, refusal, state_of}
use Rattle.omf_lowering.specs.Lowering.{BeginsWith, HasFault, HasFixupFault, IsLowered, IsNotUnrolled, IsOrigin, IsWideRecord, IsLoweringFault, fault_by, faults, faults_in, lowered_records, lowering_fault}
use Rattle.omf_lowering.specs.Patches.{patched}
use Rattle.omf_lowering.specs.Unrolled.{after_records}
use Rattle.omf_lowering.specs.declared.fault.LoweringFault.{LoweringFault}
use Rattle.omf_lowering.specs.declared.fault.Stop.{Stop}
use Rattle.omf_lowering.specs.declared.fault.Stop.TheVariants as stop
use Rattle.omf_lowering.proofs.StateLaws.{faults-more, state-more}

-- The bytes of a record and those after it.
module _ (t lo hi : ℕ) (bytes : List ℕ) (low : lo < 256) (high : hi < 256) (some : 0 < lo + 256 * hi) (inside : lo + 256 * hi ≤ length bytes) where
  body_length : length (take (lo + 256 * hi - 1) bytes) + 1 ≡ lo + 256 * hi
  body_length = omega (arith, length-take (lo + 256 * hi - 1) bytes, inside)

  body_and_checksum : take (lo + 256 * hi - 1) bytes ++ slice_index bytes (lo + 256 * hi - 1) ∷ [] ≡ take (lo + 256 * hi) bytes
  body_and_checksum =
      let within : lo + 256 * hi - 1 < length bytes = omega arith in
      let back : lo + 256 * hi - 1 + 1 ≡ lo + 256 * hi = omega arith in
      sym (take_more bytes (lo + 256 * hi - 1) 0 within) ∙ ap (λ k. take k bytes) back

  front_parts : raw_bytes (front_record (t ∷ lo ∷ hi ∷ bytes)) ++ drop (lo + 256 * hi) bytes ≡ t ∷ lo ∷ hi ∷ bytes
  front_parts =
      let first : (lo + 256 * hi) % 256 ≡ lo = omega arith in
      let second : (lo + 256 * hi) / 256 ≡ hi = omega arith in
      let rest : List ℕ = (take (lo + 256 * hi - 1) bytes ++ slice_index bytes (lo + 256 * hi - 1) ∷ []) ++ drop (lo + 256 * hi) bytes in
      ap (λ k. t ∷ k % 256 ∷ k / 256 ∷ rest) body_length
      ∙ ap (λ k. t ∷ k ∷ (lo + 256 * hi) / 256 ∷ rest) first
      ∙ ap (λ k. t ∷ lo ∷ k ∷ rest) second
      ∙ ap (λ bs. t ∷ lo ∷ hi ∷ bs ++ drop (lo + 256 * hi) bytes) body_and_checksum
      ∙ ap (λ bs. t ∷ lo ∷ hi ∷ bs) (take-append-drop (lo + 256 * hi) bytes)

refused_if : {A : Type 0} (b : Bool) (x : A) (y : Option A) → cond b (Some x) y ≡ None → (b ≡ false) × (y ≡ None)
refused_if true x y e = absurd cc
refused_if false x y e = (refl, e)

refused_unless : {A : Type 0} (b : Bool) (x : Option A) (y : A) → cond b x (Some y) ≡ None → (b ≡ true) × (x ≡ None)
refused_unless true x y e = (refl, e)
refused_unless false x y e = absurd cc

true_is : (b : Bool) → b ≡ true → IsTrue b
true_is b e = e

pub record IsFront (bytes : List ℕ) : Type 0 where
  pub wide : IsWideRecord (front_record bytes)
  pub spelled : bytes ≡ raw_bytes (front_record bytes) ++ after_front bytes

pub sound_front : (bytes : List ℕ) → AreBytes bytes → framing_fault bytes ≡ None → IsFront bytes
sound_front [] fit e = absurd cc
sound_front (t ∷ []) fit e = let k = refused_unless (is_known t) _ _ e in let l = k.1 in absurd cc
sound_front (t ∷ lo ∷ []) fit e = let k = refused_unless (is_known t) _ _ e in let l = k.1 in absurd cc
sound_front (t ∷ lo ∷ hi ∷ bytes) fit e =
    let k = refused_unless (is_known t) _ _ e in
    let cut = refused_if (ltb (length bytes) (lo + 256 * hi)) _ _ k.1 in
    let empty = refused_if (eqb (lo + 256 * hi) 0) _ _ cut.1 in
    let right = refused_unless (is_right (front_record (t ∷ lo ∷ hi ∷ bytes))) _ _ empty.1 in
    let inside : lo + 256 * hi ≤ length bytes = ltb-false _ _ cut.0 in
    let other = eqb-false (lo + 256 * hi) 0 empty.0 in
    let some : 0 < lo + 256 * hi = omega (arith, other) in
    let low : lo < 256 = fit 1 in
    let high : hi < 256 = fit 2 in
    record {
      wide = record {
        known = true_is _ k.0;
        right = true_is _ right.0;
        short = omega (arith, body_length t lo hi bytes low high some inside, low, high);
      };
      spelled = sym (front_parts t lo hi bytes low high some inside);
    }

-- one more record
pub begins_more : (input rest after : List ℕ) (before : List Raw) (r : Raw) → BeginsWith input before rest → length before < item_limit → rest ≡ raw_bytes r ++ after → IsWideRecord r → lowering_fault before r ≡ None → is_end r.kind ≡ false → BeginsWith input (before ++ r ∷ []) after
begins_more input rest after before r b few parts wide sound open_still = record {
  spelled = b.spelled ∙ ap (λ l. flat_map raw_bytes before ++ l) parts ∙ sym (append_assoc (flat_map raw_bytes before) (raw_bytes r) after)
      ∙ ap (λ l. l ++ after) (ap (λ l. flat_map raw_bytes before ++ l) (sym (append-nil (raw_bytes r))) ∙ sym (flat_map-append raw_bytes before (r ∷ [])));
  count = omega (arith, few, length-append before (r ∷ []));
  each = All-append IsWideRecord before (r ∷ []) b.each (all_one IsWideRecord r wide);
  sound = faults-more before r ∙ ap (λ f. faults before ++ faults_in f) sound ∙ append-nil (faults before) ∙ b.sound;
  no_end = All-append (λ x. IsTrue (not (is_end x.kind))) before (r ∷ []) b.no_end (all_one (λ x. IsTrue (not (is_end x.kind))) r (true_is _ (ap not open_still)));
}

pub open_start : (input : List ℕ) → IsOpen input input 0 (state_of [])
open_start input = record {
  before = [];
  begins = record { spelled = refl; count = omega arith; each = All-nil IsWideRecord; sound = refl; no_end = All-nil (λ x. IsTrue (not (is_end x.kind))) };
  count = refl;
  state = refl;
}

-- the fault of the record by the state
pub fault_by_state : (s : State) (before : List Raw) (r : Raw) → s ≡ state_of before → fault_by s.before s.data_before r ≡ lowering_fault before r
fault_by_state s before r is = ap (λ t. fault_by t.before t.data_before r) is

pub open_more : (input rest after : List ℕ) (number : ℕ) (s t : State) → IsOpen input rest number s → number < item_limit → rest ≡ raw_bytes (front_record rest) ++ after → IsWideRecord (front_record rest)
    → fault_by s.before s.data_before (front_record rest) ≡ None → is_end (front_record rest).kind ≡ false → t ≡ added s (front_record rest) → IsOpen input after (number + 1) t
open_more input rest after number s t o few parts wide sound open_still is = record {
  before = o.before ++ front_record rest ∷ [];
  begins = begins_more input rest after o.before (front_record rest) o.begins (subst (λ n. n < item_limit) o.count few) parts wide (sym (fault_by_state s o.before (front_record rest) o.state) ∙ sound) open_still;
  count = omega (arith, o.count, length-append o.before (front_record rest ∷ []));
  state = is ∙ ap (λ u. added u (front_record rest)) o.state ∙ sym (state-more o.before (front_record rest));
}

pub read_end : (input rest after : List ℕ) (number : ℕ) (s t : State) → IsOpen input rest number s → number < item_limit → rest ≡ raw_bytes (front_record rest) ++ after → IsWideRecord (front_record rest)
    → fault_by s.before s.data_before (front_record rest) ≡ None → is_end (front_record rest).kind ≡ true → t ≡ added s (front_record rest) → IsRead input after t
read_end input rest after number s t o few parts wide sound ended is = record {
  before = o.before;
  end = front_record rest;
  begins = subst (BeginsWith input o.before) parts o.begins;
  few = subst (λ n. n < item_limit) o.count few;
  last = wide;
  ends = true_is _ ended;
  sound = sym (fault_by_state s o.before (front_record rest) o.state) ∙ sound;
  state = is ∙ ap (λ u. added u (front_record rest)) o.state ∙ sym (state-more o.before (front_record rest));
}

-- the offset of the rest
offset_of : (input rest : List ℕ) (before : List Raw) → BeginsWith input before rest → length input - length rest ≡ length (flat_map raw_bytes before)
offset_of input rest before b =
    let size : length input ≡ length (flat_map raw_bytes before ++ rest) = ap length b.spelled in
    omega (arith, size, length-append (flat_map raw_bytes before) rest)

pub stopped_at : (input rest : List ℕ) (number start : ℕ) (s : State) (why : Stop) → IsOpen input rest number s → number < item_limit → start ≡ length input - length rest
    → IsStop why (option_or (framing_fault rest) (fault_by s.before s.data_before (front_record rest))) → IsLoweringFault input (refusal why number start)
stopped_at input rest number start s stop.Memory o few at is = tt
stopped_at input rest number start s (stop.At e) o few at is =
    let below : ltb (length o.before) item_limit ≡ true = lt-ltb (length o.before) item_limit (subst (λ n. n < item_limit) o.count few) in
    let own : HasFault input e.reason (record { number = number; start = start; within = e.within }) = record {
      before = o.before;
      rest = rest;
      begins = o.begins;
      number = o.count;
      start = at ∙ offset_of input rest o.before o.begins;
      fault = ap (λ b. cond b (option_or (framing_fault rest) (lowering_fault o.before (front_record rest))) (Some (fault 0 reason.TooMany))) below
          ∙ ap (option_or (framing_fault rest)) (sym (fault_by_state s o.before (front_record rest) o.state)) ∙ is;
    } in
    inl own

pub too_many : (input rest : List ℕ) (number start : ℕ) (s : State) → IsOpen input rest number s → item_limit ≤ number → start ≡ length input - length rest
    → number ≡ item_limit → IsLoweringFault input (excess start)
too_many input rest number start s o many at full =
    let above : ltb (length o.before) item_limit ≡ false = le-ltb (length o.before) item_limit (subst (λ n. item_limit ≤ n) o.count many) in
    let own : HasFault input reason.TooMany (record { number = item_limit; start = start; within = 0 }) = record {
      before = o.before;
      rest = rest;
      begins = o.begins;
      number = sym full ∙ o.count;
      start = at ∙ offset_of input rest o.before o.begins;
      fault = ap (λ b. cond b (option_or (framing_fault rest) (lowering_fault o.before (front_record rest))) (Some (fault 0 reason.TooMany))) above;
    } in
    inl own

-- the record that gives a lowered record with a number
pub origin_found : (input rest after : List ℕ) (number start record_number : ℕ) (s t : State) → IsOpen input rest number s → number < item_limit → start ≡ length input - length rest → rest ≡ raw_bytes (front_record rest) ++ after
    → IsWideRecord (front_record rest) → t ≡ added s (front_record rest) → length s.before.records ≤ record_number → (record_number < length t.before.records) ⊎ (is_end (front_record rest).kind ≡ true)
    → IsOrigin input record_number (record { number = number; start = start; within = 0 })
origin_found input rest after number start record_number s t o few at parts wide is from to = record {
  before = o.before;
  origin = front_record rest;
  rest = after;
  begins = subst (BeginsWith input o.before) parts o.begins;
  wide = wide;
  from = subst (λ (u : State). length u.before.records ≤ record_number) o.state from;
  to = end_or (subst (λ (u : State). (record_number < length u.before.records) ⊎ (is_end (front_record rest).kind ≡ true)) (is ∙ ap (λ u. added u (front_record rest)) o.state ∙ sym (state-more o.before (front_record rest))) to);
  numbered = o.count;
  started = at ∙ offset_of input rest o.before o.begins;
}
  where
    end_or : {A : Type 0} → A ⊎ (is_end (front_record rest).kind ≡ true) → A ⊎ IsTrue (is_end (front_record rest).kind)
    end_or (inl a) = inl a
    end_or (inr e) = inr (true_is _ e)

pub reached_cases : (ends : Bool) (n m : ℕ) → (ends || nat_lt n m) ≡ true → (n < m) ⊎ (ends ≡ true)
reached_cases true n m e = inr refl
reached_cases false n m e = inl (ltb-true n m e)

pub not_reached : (ends : Bool) (n m : ℕ) → (ends || nat_lt n m) ≡ false → (ends ≡ false) × (m ≤ n)
not_reached true n m e = absurd cc
not_reached false n m e = (refl, ltb-false n m e)

-- ---- the lowered records, unrolled

pub moved : (input : List ℕ) (number within : ℕ) (p : Place) → IsOrigin input number p → IsOrigin input number (record { number = p.number; start = p.start; within = within })
moved input number within p o = record { before = o.before; origin = o.origin; rest = o.rest; begins = o.begins; wide = o.wide; from = o.from; to = o.to; numbered = o.numbered; started = o.started }

-- the records with all values added
abbrev finished : State → List Raw
finished s = patched (patched s.before.records s.patches) s.growths

all_lowered : (input rest : List ℕ) (s : State) (rs : List Raw) (r : IsRead input rest s) → rs ≡ finished s → rs ≡ lowered_records (r.before ++ r.end ∷ [])
all_lowered input rest s rs r is = is ∙ ap finished r.state

pub lowered_by : (input rest out : List ℕ) (s : State) (rs : List Raw) → IsRead input rest s → rs ≡ patched (patched s.before.records s.patches) s.growths → IsBytesOf rs out → IsLowered input out rest
lowered_by input rest out s rs r is b = record {
  before = r.before;
  end = r.end;
  begins = r.begins;
  few = r.few;
  last = r.last;
  ends = r.ends;
  sound = r.sound;
  after = b.after;
  unrolled = ap after_records (sym (all_lowered input rest s rs r is)) ∙ b.unrolled;
  lowered = b.bytes;
}

pub halted_by : (input rest : List ℕ) (s : State) (rs : List Raw) (number : ℕ) (why : Stop) (f : LoweringFault) → IsRead input rest s → rs ≡ patched (patched s.before.records s.patches) s.growths
    → IsHalt rs number why → IsHaltOf input number why f → IsLoweringFault input f
halted_by input rest s rs number stop.Memory f r is halt of = of
halted_by input rest s rs number (stop.At e) f r is halt (inl own) = own
halted_by input rest s rs number (stop.At e) f r is halt (inr (place, fault_is, within, origin)) =
    let given : IsNotUnrolled input e.reason place = record {
      before = r.before;
      end = r.end;
      rest = rest;
      begins = r.begins;
      few = r.few;
      last = r.last;
      ends = r.ends;
      sound = r.sound;
      number = number;
      fault = subst (HasFixupFault (lowered_records (r.before ++ r.end ∷ [])) number) (ap (λ w. fault w e.reason) (sym within))
          (subst (λ l. HasFixupFault l number e) (all_lowered input rest s rs r is) halt);
      origin = origin;
    } in
    subst (IsLoweringFault input) (sym fault_is) (inr given)

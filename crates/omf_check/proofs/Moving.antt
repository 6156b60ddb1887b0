-- A session at its start, with more bytes of a record, and with a record accepted.
use Rattle.std.proofs.Common.{◌≡◌, ℕ, suc, ◌+◌, ◌*◌, ◌^◌, ◌<◌, ◌≤◌, Bool, true, false, List, [], ◌∷◌, ◌++◌, refl, sym, ◌∙◌, ap, subst, arith, append_assoc, length, take, length-append, inl, inr}
use Rattle.std.specs.Prelude.{All, flat_map, IsTrue, not, ◌==◌, cond, Option, None, Some, slice_index, is_none, ◌&&◌, sum_by, max}
use Rattle.std.proofs.lemmas.List.{append-nil, map-append}
use Rattle.std.proofs.lemmas.List.Sums.{sum_by-append}
use Rattle.omf_frame.specs.Bytes.{AreBytes}
use Rattle.omf_frame.specs.Fault.{Fault, first_step}
use Rattle.omf_frame.specs.declared.fault.Reason.TheVariants as reason
use Rattle.omf_frame.proofs.FaultLaws.{least_is_least}
use Rattle.omf_frame.specs.Framing.{Raw, raw_bytes, IsRecord, is_end, is_whole, present, front_record, frame_steps, frame_fault}
use Rattle.omf_frame.specs.Framer.{Held, at_start, passed, stands}
use Rattle.omf_frame.specs.Framer.{next_bytes as next_of, Takes as FramerTakes}
use Rattle.omf_frame.proofs.StepLaws.{least_none, clean_steps}
use Rattle.omf_records.specs.Inner.Reading.{typed}
use Rattle.omf_records.specs.Values.{Contents, Fixups, Names, Rec}
use Rattle.omf_image.specs.Limits.{profile_limits}
use Rattle.omf_check.specs.Inner.Names.{steps, place_after, is_empty}
use Rattle.omf_check.specs.declared.profile.Profile.{Profile}
use Rattle.omf_check.specs.Inner.Judging.{raw_fault, rec_of}
use Rattle.omf_check.specs.Inner.Kept.{Kept, Tells, IsBounded, nothing_kept, with_record}
use Rattle.omf_check.specs.Inner.Faults.{record_steps}
use Rattle.omf_check.specs.Refusal.{AreSoundSoFar}
use Rattle.omf_check.specs.Tables.{item_count, items_in}
use Rattle.omf_check.specs.WellFormed.{recs, IsWellFormed}
use Rattle.omf_check.specs.Inner.Passing.{IsPassing}
use Rattle.omf_check.specs.Listed.{IsReadable}
use Rattle.omf_records.specs.Inner.LawProofs.{decided}
use Rattle.omf_check.specs.Inner.Points.{PointsTo}
use Rattle.omf_check.proofs.AcceptLaws.{all_middle}
use Rattle.omf_check.proofs.PointLaws.{points_on}
use Rattle.omf_check.proofs.StepLaws.{sound_of}
use Rattle.omf_check.proofs.KeptLaws.{tells_more, nothing_tells}
use Rattle.omf_check.proofs.Passing.{first_none, first_number, bodies_of, flat_more, all_more}
use Rattle.omf_check.proofs.RecordLaws.{raw_law}
use Rattle.omf_check.proofs.RefusedLaws.{refused-first}
use Rattle.omf_check.proofs.UniqueLaws.{AreSound}
use Rattle.omf_check.proofs.VerdictLaws.{all_none, sound_more, sound_module}

clash : true ≡ false → ⊥
clash e = cc

small_none : AreBytes []
small_none i = omega arith

nowhere : (earlier later : List Raw) (r : Raw) → [] ≡ earlier ++ r ∷ later → ⊥
nowhere [] later r e = cc
nowhere (x ∷ earlier) later r e = cc

no_last : (r : Rec) → ◌≡◌ {A = Option Rec} None (Some r) → ⊥
no_last r e = cc

pub started : (profile : Profile) → IsPassing profile at_start [] nothing_kept
started profile = record {
  before = [];
  spelled = refl;
  records = all_none IsRecord;
  small = small_none;
  sound = λ earlier later r e. absurd (nowhere earlier later r e);
  number = refl;
  start = refl;
  no_fault = refl;
  partial = refl;
  standing = refl;
  running = λ e. all_none (λ r. IsTrue (not (is_end r.kind)));
  at_end = λ e. absurd (clash (sym e));
  tells = nothing_tells;
  points = record { names = tt; groups = tt; externals = tt; end = λ r l is. absurd (no_last r l) };
  short = omega arith;
  bounded = record { names = omega arith; segments = omega arith; groups = omega arith; externals = omega arith; items = omega arith };
}

pub starting : (profile : Profile) (held : Held) (taken : List ℕ) (kept : Kept) → held ≡ at_start → taken ≡ [] → kept ≡ nothing_kept → IsPassing profile held taken kept
starting profile held taken kept h t k =
    subst (λ x. IsPassing profile x taken kept) (sym h) (subst (λ x. IsPassing profile at_start x kept) (sym t) (subst (λ x. IsPassing profile at_start [] x) (sym k) (started profile)))

-- Records have no more bytes than 65,538 each, and are items.
record_size : (r : Raw) → IsRecord r → length (raw_bytes r) ≤ 65538
record_size r is = let e = length-append r.body (r.checksum ∷ []) in let low : length r.body + 1 < 65536 = is.0 in omega (arith, e, low)

all_head : (P : Raw → Type 0) (r : Raw) (rs : List Raw) → All P (r ∷ rs) → P r
all_head P r rs h = h 0 r (omega arith)

all_tail : (P : Raw → Type 0) (r : Raw) (rs : List Raw) → All P (r ∷ rs) → All P rs
all_tail P r rs h k d low = let more : suc k < length (r ∷ rs) = omega arith in h (suc k) d more

pub records_size : (rs : List Raw) → All IsRecord rs → length (flat_map raw_bytes rs) ≤ 65538 * length rs
records_size [] h = omega arith
records_size (r ∷ rs) h =
    let one = record_size r (all_head IsRecord r rs h) in
    let others = records_size rs (all_tail IsRecord r rs h) in
    let e : length (raw_bytes r ++ flat_map raw_bytes rs) ≡ length (raw_bytes r) + length (flat_map raw_bytes rs) = length-append (raw_bytes r) (flat_map raw_bytes rs) in
    many (length (raw_bytes r)) (length (flat_map raw_bytes rs)) (length rs) (length (raw_bytes r ++ flat_map raw_bytes rs)) one others e
  where
    many : (a b n whole : ℕ) → a ≤ 65538 → b ≤ 65538 * n → whole ≡ a + b → whole ≤ 65538 * suc n
    many a b n whole h k e = omega (arith, h, k, e)

one_item : (c : Contents) → 1 ≤ items_in c
one_item (Fixups subs) = by (length subs)
  where
    by : (n : ℕ) → 1 ≤ max 1 n
    by n = omega arith
one_item (Names items) = omega arith
one_item _ = omega arith

pub item_more : (rs : List Raw) → length rs ≤ item_count (recs rs)
item_more [] = omega arith
item_more (r ∷ rs) =
    let e : item_count (recs (r ∷ rs)) ≡ sum_by (λ x. items_in x.contents) (typed r ∷ []) + sum_by (λ x. items_in x.contents) (recs rs) = sum_by-append (λ x. items_in x.contents) (typed r ∷ []) (recs rs) in
    let one = one_item (typed r).contents in
    let others = item_more rs in
    single (items_in (typed r).contents) (item_count (recs rs)) (length rs) (item_count (recs (r ∷ rs))) one others e
  where
    single : (a b n whole : ℕ) → 1 ≤ a → n ≤ b → whole ≡ 0 + a + b → suc n ≤ whole
    single a b n whole h k e = omega (arith, h, k, e)

module _ (profile : Profile) (held : Held) (taken : List ℕ) (kept : Kept) (p : IsPassing profile held taken kept) where
  -- the number and the start are far below the ends of their types
  pub number_bound : held.number ≤ 1048576
  number_bound = let e = p.number in let m = item_more p.before in let t = p.tells.items in let b = p.bounded.items in omega (arith, e, m, t, b)

  pub start_bound : held.start < 2 ^ 40
  start_bound =
      let e = p.start in let s = records_size p.before p.records in let n = p.number in let b = number_bound in
      far held.start (length (flat_map raw_bytes p.before)) (length p.before) held.number e s n b
    where
      far : (start size n number : ℕ) → start ≡ size → size ≤ 65538 * n → number ≡ n → number ≤ 1048576 → start < 2 ^ 40
      far start size n number e s m b = omega (arith, e, s, m, b)

  pub taken_bound : length taken < 2 ^ 37
  taken_bound =
      let small = p.short in
      let e : length taken ≡ length (flat_map raw_bytes p.before) + length held.bytes = ap length p.spelled ∙ length-append (flat_map raw_bytes p.before) held.bytes in
      let s = records_size p.before p.records in let n = p.number in let b = number_bound in
      far (length taken) (length (flat_map raw_bytes p.before)) (length p.before) held.number (length held.bytes) e s n b small
    where
      far : (whole size n number rest : ℕ) → whole ≡ size + rest → size ≤ 65538 * n → number ≡ n → number ≤ 1048576 → rest ≤ 65538 → whole < 2 ^ 37
      far whole size n number rest e s m b r = omega (arith, e, s, m, b, r)

  module _ (piece : List ℕ) (count : ℕ) (whole : Bool) (new : Held) (t : FramerTakes held piece count whole new) (small : AreBytes (taken ++ take count piece)) where
    abbrev now : List ℕ
    now = next_of held piece

    now_spelled : taken ++ take count piece ≡ flat_map raw_bytes p.before ++ now
    now_spelled = ap (λ x. x ++ take count piece) p.spelled ∙ append_assoc (flat_map raw_bytes p.before) held.bytes (take count piece) ∙ ap (λ x. flat_map raw_bytes p.before ++ x) (sym t.grown)

    -- after the end nothing is taken
    ended_now : held.ended ≡ true → now ≡ []
    ended_now e = ap (λ b. cond b [] (present (held.bytes ++ piece))) e

    ended_same : held.ended ≡ true → taken ++ take count piece ≡ taken
    ended_same e =
        let none : now ≡ [] = ended_now e in
        now_spelled ∙ ap (λ x. flat_map raw_bytes p.before ++ x) (none ∙ sym (p.at_end e).0) ∙ sym p.spelled

    whole_new : Bool → Type 0
    whole_new b = is_whole now ≡ b

    -- no record is whole yet
    pub goes_on : length now ≤ 65538 → stands (record held { bytes = now }) ≡ false → IsPassing profile (record held { bytes = now }) (taken ++ take count piece) kept
    goes_on short s = record {
      before = p.before;
      spelled = now_spelled;
      records = p.records;
      small = small;
      sound = p.sound;
      number = p.number;
      start = p.start;
      no_fault = p.no_fault;
      partial = ap (λ o. is_none o && is_whole now) (sym p.no_fault) ∙ s;
      standing = t.sound;
      running = p.running;
      at_end = λ e. (ended_now e, subst (λ x. IsWellFormed profile profile_limits x p.before) (sym (ended_same e)) (p.at_end e).1);
      tells = p.tells;
      points = p.points;
      bounded = p.bounded;
      short = short;
    }

    pub more_goes_on : length new.bytes ≤ 65538 → stands new ≡ false → IsPassing profile new (taken ++ take count piece) kept
    more_goes_on short s = subst (λ x. IsPassing profile x (taken ++ take count piece) kept) (sym t.new_is) (goes_on (subst (λ x. length x.bytes ≤ 65538) t.new_is short) (ap stands (sym t.new_is) ∙ s))

    -- a record is whole
    not_ended_by : (b : Bool) → held.ended ≡ b → is_whole now ≡ true → held.ended ≡ false
    not_ended_by false e w = e
    not_ended_by true e w = absurd (clash (sym w ∙ ap is_whole (ended_now e)))

    pub not_ended : is_whole now ≡ true → held.ended ≡ false
    not_ended w = not_ended_by held.ended refl w

    module _ (w : is_whole now ≡ true) (is_record : IsRecord (front_record now)) (back : raw_bytes (front_record now) ≡ now)
        (framed : frame_fault (held.number == 0) now ≡ None) (judged : raw_fault profile profile_limits kept (front_record now).kind (front_record now).body ≡ None) where
      abbrev r : Raw
      r = front_record now

      step_none : first_step (steps profile profile_limits p.before (raw_bytes r)) ≡ []
      step_none =
          ap (λ x. first_step (steps profile profile_limits p.before x)) back
          ∙ first_none (frame_steps (is_empty p.before) now) (record_steps profile profile_limits p.before r)
          (clean_steps (is_empty p.before) now (ap (λ b. frame_fault b now) (sym (first_number held.number p.before p.number)) ∙ framed))
          ∙ least_none (first_step (record_steps profile profile_limits p.before r)) (sym (raw_law profile profile_limits kept p.before p.tells r) ∙ judged)

      more_sound : AreSound profile profile_limits [] (p.before ++ r ∷ [])
      unfolding AreSound
      more_sound = sound_more profile profile_limits [] p.before r p.sound step_none

      more_records : All IsRecord (p.before ++ r ∷ [])
      more_records = all_more IsRecord p.before r p.records is_record

      more_spelled : taken ++ take count piece ≡ flat_map raw_bytes (p.before ++ r ∷ [])
      more_spelled = now_spelled ∙ ap (λ x. flat_map raw_bytes p.before ++ x) (sym back) ∙ sym (flat_more p.before r)

      kind_front : (bytes : List ℕ) → (front_record bytes).kind ≡ slice_index bytes 0
      kind_front [] = refl
      kind_front (a ∷ []) = refl
      kind_front (a ∷ b ∷ []) = refl
      kind_front (a ∷ b ∷ c ∷ bytes) = refl

      more_running : is_end (slice_index now 0) ≡ false → All (λ x. IsTrue (not (is_end x.kind))) (p.before ++ r ∷ [])
      more_running e = all_more (λ x. IsTrue (not (is_end x.kind))) p.before r (p.running (not_ended w)) (ap not (ap is_end (kind_front now) ∙ e))

      ends_here : is_end (slice_index now 0) ≡ true → IsWellFormed profile profile_limits (taken ++ take count piece) (p.before ++ r ∷ [])
      ends_here e =
          let all_small : AreBytes (flat_map raw_bytes (p.before ++ r ∷ []) ++ []) = subst AreBytes (more_spelled ∙ sym (append-nil (flat_map raw_bytes (p.before ++ r ∷ [])))) small in
          let whole_module : IsWellFormed profile profile_limits (flat_map raw_bytes (p.before ++ r ∷ [])) (p.before ++ r ∷ [])
          = sound_module profile profile_limits p.before r more_records (bodies_of (p.before ++ r ∷ []) [] all_small) (ap is_end (kind_front now) ∙ e) (p.running (not_ended w)) more_sound in
          subst (λ x. IsWellFormed profile profile_limits x (p.before ++ r ∷ [])) (sym more_spelled) whole_module

      -- the bytes are the module that ends here, or end behind this record
      pub passed_sound : AreSoundSoFar profile profile_limits (taken ++ take count piece)
      unfolding AreSound
      passed_sound = by (is_end (slice_index now 0)) refl
        where
          none : Fault
          none = record { within = 0; reason = reason.NoEnd }

          by : (b : Bool) → is_end (slice_index now 0) ≡ b → AreSoundSoFar profile profile_limits (taken ++ take count piece)
          by true e = inl (p.before ++ r ∷ [], ends_here e)
          by false e = inr (
            reason.NoEnd,
            place_after (p.before ++ r ∷ []) none,
            refl,
            refused-first profile profile_limits (taken ++ take count piece) reason.NoEnd (place_after (p.before ++ r ∷ []) none) (record {
              before = p.before ++ r ∷ [];
              rest = [];
              found = none;
              spelled = more_spelled ∙ sym (append-nil (flat_map raw_bytes (p.before ++ r ∷ [])));
              records = more_records;
              running = more_running e;
              sound = more_sound;
              least = least_is_least none [];
              named = refl;
              there = refl;
            }) (bodies_of (p.before ++ r ∷ []) [] (subst AreBytes (more_spelled ∙ sym (append-nil (flat_map raw_bytes (p.before ++ r ∷ [])))) small)) (λ n. small_none),
          )

      is_typed : IsReadable r
      is_typed =
          let all_small : AreBytes (flat_map raw_bytes (p.before ++ r ∷ []) ++ []) = subst AreBytes (more_spelled ∙ sym (append-nil (flat_map raw_bytes (p.before ++ r ∷ [])))) small in
          let body_small : AreBytes r.body = all_middle (λ x. AreBytes x.body) (p.before ++ r ∷ []) p.before [] r refl (bodies_of (p.before ++ r ∷ []) [] all_small) in
          let sound = sound_of profile profile_limits p.before r is_record step_none in
          record { is_record = is_record; taken = sound.known; typed = (decided r body_small).1 sound.read }

      recs_more : recs (p.before ++ r ∷ []) ≡ recs p.before ++ typed r ∷ []
      recs_more = map-append typed p.before (r ∷ [])

      pub passes : IsBounded (with_record kept held.start (rec_of r.kind r.body)) → IsPassing profile (passed (record held { bytes = now })) (taken ++ take count piece) (with_record kept held.start (rec_of r.kind r.body))
      unfolding AreSound
      passes bound = record {
        before = p.before ++ r ∷ [];
        spelled = more_spelled ∙ sym (append-nil (flat_map raw_bytes (p.before ++ r ∷ [])));
        records = more_records;
        small = small;
        sound = more_sound;
        number = ap (λ n. n + 1) p.number ∙ sym (length-append p.before (r ∷ []));
        start = ap (λ n. n + length now) p.start ∙ ap (λ x. length (flat_map raw_bytes p.before) + length x) (sym back)
            ∙ sym (length-append (flat_map raw_bytes p.before) (raw_bytes r)) ∙ ap length (sym (flat_more p.before r));
        no_fault = refl;
        partial = refl;
        standing = refl;
        running = more_running;
        at_end = λ e. (refl, ends_here e);
        tells = subst (λ x. Tells (with_record kept held.start (rec_of r.kind r.body)) x) (sym recs_more) (tells_more kept (recs p.before) held.start (typed r) p.tells);
        points = subst (λ x. PointsTo x (with_record kept held.start (rec_of r.kind r.body)) (recs (p.before ++ r ∷ []))) (sym (flat_more p.before r))
            (subst (λ x. PointsTo (flat_map raw_bytes p.before ++ raw_bytes r) (with_record kept held.start (rec_of r.kind r.body)) x) (sym recs_more)
            (points_on (flat_map raw_bytes p.before) r held.start p.start kept (recs p.before) is_typed p.points));
        bounded = bound;
        short = omega arith;
      }

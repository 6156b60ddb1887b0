-- A record that is judged where a reader shows it is judged as one that was fed.
use Rattle.std.proofs.Common.{◌≡◌, ◌∙◌, ℕ, ◌+◌, ◌-◌, ◌^◌, ◌<◌, ◌≤◌, true, false, List, [], ◌∷◌, ◌++◌, Result, Ok, Err, refl, sym, ap, subst, arith, append_assoc, length, length-append, take, drop}
use Rattle.std.specs.Prelude.{◌==◌, ◌&&◌, ◌||◌, not, cond, flat_map, IsTrue, Option, Some, None, IfOk, IfErr}
use Rattle.std.specs.Io.KnownBytes.{Consumes, Appends}
use Rattle.std.specs.Io.{StartsWith}
use Rattle.std.proofs.KnownBytes.{Appends-nil, Appends-trans, starts_with_rest}
use Rattle.std.proofs.lemmas.List.{append-nil, append_cancel_left, length-take, take_all}
use Rattle.std.proofs.Math.Seq.{take-append_seam}
use Rattle.omf_frame.specs.Bytes.{AreBytes}
use Rattle.omf_frame.specs.Device.{Device, Shows}
use Rattle.omf_frame.specs.Framer.{Held, IsBetween, passed, with_bytes, begins_record}
use Rattle.omf_frame.specs.Framer.{next_bytes as next_of, Takes as FramerTakes}
use Rattle.omf_frame.specs.Framing.{Raw, raw_bytes, IsRecord, present, front_record, frame_fault, standing_fault, is_taken, record_len}
use Rattle.omf_frame.specs.Inner.Names.{is_nonempty}
use Rattle.omf_frame.proofs.Growing.{present_is}
use Rattle.omf_frame.proofs.Standing.{present_twice}
use Rattle.omf_records.specs.Inner.Steps.{AreBytes-take}
use Rattle.omf_image.specs.Limits.{profile_limits}
use Rattle.omf_check.specs.declared.fault.CheckFault.{CheckFault}
use Rattle.omf_check.specs.declared.profile.Profile.{Profile}
use Rattle.omf_check.specs.Inner.Ahead.{PassesAhead, StopsAhead, FailsAhead}
use Rattle.omf_check.specs.Inner.Judging.{raw_fault, rec_of}
use Rattle.omf_check.specs.Inner.Kept.{Kept, IsBounded, with_record}
use Rattle.omf_check.specs.Inner.Passing.{IsPassing, IsStopped, here}
use Rattle.omf_check.specs.Session.{Seen, want_of, want_with}
use Rattle.omf_check.proofs.Advancing.{take_fails, record_passed}
use Rattle.omf_check.proofs.CheckLaws.{consumes_more}
use Rattle.omf_check.proofs.JudgingLaws.{consumes_start}
use Rattle.omf_check.proofs.Moving.{taken_bound, start_bound, number_bound}

begins_at : (ahead : List ℕ) → record_len ahead ≤ length ahead → is_taken (front_record (present ahead)).kind ≡ true → begins_record [] ahead ≡ true
begins_at [] h e = absurd (omega (arith, h))
begins_at (t ∷ []) h e = e
begins_at (t ∷ lo ∷ []) h e = e
begins_at (t ∷ lo ∷ hi ∷ rest) h e = e

module _ (profile : Profile) (held : Held) (taken : List ℕ) (kept : Kept) (p : IsPassing profile held taken kept) (ahead : List ℕ) (b : IsBetween held)
    (t : FramerTakes held ahead (record_len ahead) true (with_bytes held (present ahead))) (long : record_len ahead ≤ length ahead) where
  abbrev piece : List ℕ
  piece = take (record_len ahead) ahead

  abbrev new : Held
  new = with_bytes held (present ahead)

  abbrev s : Seen
  s = here profile held taken

  pub piece_len : length piece ≡ record_len ahead
  piece_len = let e = length-take (record_len ahead) ahead in omega (arith, e, long)

  same_front : present piece ≡ present ahead
  same_front = ap present (present_is ahead) ∙ present_twice ahead

  next_same : next_of held piece ≡ next_of held ahead
  next_same =
      ap (λ x. cond held.ended [] (present (x ++ piece))) b.none
      ∙ ap (λ x. cond held.ended [] x) same_front
      ∙ ap (λ x. cond held.ended [] (present (x ++ ahead))) (sym b.none)

  all_of : take (record_len ahead) piece ≡ piece
  all_of = let e = piece_len in take_all (record_len ahead) piece (omega (arith, e))

  piece_taken : FramerTakes held piece (record_len ahead) true new
  piece_taken = record {
    no_fault = t.no_fault;
    new_is = t.new_is ∙ ap (λ x. with_bytes held x) (sym next_same);
    grown = next_same ∙ t.grown ∙ ap (λ x. held.bytes ++ x) (sym all_of);
    taken_is = t.taken_is ∙ ap length (sym next_same);
    bound = let e = piece_len in omega (arith, e);
    all_wanted = let e = piece_len in omega (arith, e);
    whole_is = t.whole_is;
    sound = ap (standing_fault (held.number == 0)) next_same ∙ t.sound;
  }

  pub start_fits : (start : ℕ) → start ≡ held.start → start < 2 ^ 40
  start_fits start e = subst (λ x. x < 2 ^ 40) (sym e) (start_bound profile held taken kept p)

  pub number_fits : held.number < 2 ^ 32 - 1
  number_fits = let e = number_bound profile held taken kept p in omega (arith, e)

  some_taken : is_nonempty taken ≡ true
  some_taken = let later = b.later in let number = p.number in ap is_nonempty p.spelled ∙ by p.before (omega (arith, later, number))
    where
      by : (rs : List Raw) → 0 < length rs → is_nonempty (flat_map raw_bytes rs ++ held.bytes) ≡ true
      by [] h = absurd (omega (arith, h))
      by (r ∷ rs) h = refl

  want_is : is_taken (front_record (present ahead)).kind ≡ true → want_with s ahead ≡ record_len ahead
  want_is e =
      ap (λ x. cond (x && (begins_record held.bytes ahead && not (held.ended || false))) (record_len ahead) (want_of s)) some_taken
      ∙ ap (λ x. cond (x && not (held.ended || false)) (record_len ahead) (want_of s)) (ap (λ x. begins_record x ahead) b.none ∙ begins_at ahead long e)
      ∙ ap (λ x. cond (not (x || false)) (record_len ahead) (want_of s)) b.running

  -- the record, as it is shown
  module _ (kind number start : ℕ) (body : List ℕ) (small : AreBytes ahead) (f : frame_fault (held.number == 0) (present ahead) ≡ None) (is : IsRecord (front_record (present ahead)))
      (back : raw_bytes (front_record (present ahead)) ≡ present ahead) (k : kind ≡ (front_record (present ahead)).kind) (bd : body ≡ (front_record (present ahead)).body)
      (n : number ≡ held.number) (st : start ≡ held.start) where
    pub accepted : (after : Held) (tables : Kept) (size : ℕ) (old left had has : Option (List ℕ)) → size ≡ record_len ahead → Consumes old left (take size ahead) → Appends had has (take size ahead) → after ≡ passed new
        → raw_fault profile profile_limits kept kind body ≡ None → tables ≡ with_record kept start (rec_of kind body) → IsBounded tables → PassesAhead profile taken size old left had has after tables
    accepted after tables size old left had has size_is c g a judged kt bound = record {
      passed = piece;
      passing = record_passed profile held taken kept p piece (record_len ahead) true new piece_taken (taken ++ piece) after tables kind start body (ap (λ x. taken ++ x) (sym all_of))
          (AreBytes-take (record_len ahead) ahead small) (sym t.whole_is) a f is back k bd st judged kt bound;
      counted = size_is ∙ sym piece_len;
      consumed = subst (λ m. Consumes old left (take m ahead)) size_is c;
      grown = subst (λ m. Appends had has (take m ahead)) size_is g;
    }

    pub refused : (fault : CheckFault) (size : ℕ) (old left : Option (List ℕ)) → Shows old ahead → size ≡ record_len ahead → Consumes old left (take size ahead) → IsTrue (is_taken kind)
        → IsStopped (raw_fault profile profile_limits kept kind body) number start fault → StopsAhead profile held taken ahead old left fault
    refused fault size old left sh size_is c is_kind h = record {
      shows = sh;
      running = b.running;
      low = let e = want_is (ap is_taken (sym k) ∙ is_kind) in let l = piece_len in omega (arith, e, l);
      consumed = subst (λ m. Consumes old left (take m ahead)) size_is c;
      fails = take_fails profile held taken kept p piece (record_len ahead) true new piece_taken fault kind number start body (sym t.whole_is) f is back k bd n st
          (AreBytes-take (record_len ahead) ahead small) h;
    }

-- no record is shown whole
pub none_ahead : (profile : Profile) (held : Held) (taken : List ℕ) (kept : Kept) → IsPassing profile held taken kept → (o had : Option (List ℕ)) → PassesAhead profile taken 0 o o had had held kept
none_ahead profile held taken kept p o had = record {
  passed = [];
  passing = subst (λ x. IsPassing profile held x kept) (sym (append-nil taken)) p;
  counted = refl;
  consumed = consumes_start o;
  grown = Appends-nil had;
}

-- what was judged before a step, and what the step does
pub record HasPassed (profile : Profile) (first : Held) (before : Kept) (old new : Device) (had has : Option (List ℕ)) (held : Held) (kept : Kept) (size : ℕ) : Type 0 where
  pub moved : (taken : List ℕ) → IsPassing profile first taken before → PassesAhead profile taken size old.bytes new.bytes had has held kept
  pub failures : new.failures ≡ old.failures
  pub breaks : new.breaks ≡ old.breaks

module _ (profile : Profile) (taken : List ℕ) (size : ℕ) (old between had has : Option (List ℕ)) (held : Held) (kept : Kept) (m : PassesAhead profile taken size old between had has held kept) where
  pub joined : (count : ℕ) (new then : Option (List ℕ)) (after : Held) (tables : Kept) → PassesAhead profile (taken ++ m.passed) count between new has then after tables → PassesAhead profile taken (size + count) old new had then after tables
  joined count new then after tables q = record {
    passed = m.passed ++ q.passed;
    passing = subst (λ x. IsPassing profile after x tables) (append_assoc taken m.passed q.passed) q.passing;
    counted = let a = m.counted in let b = q.counted in let l = length-append m.passed q.passed in omega (arith, a, b, l);
    consumed = consumes_more old between new m.passed q.passed m.consumed q.consumed;
    grown = Appends-trans had has then m.passed q.passed m.grown q.grown;
  }

  pub joined_none : (count : ℕ) (new then : Option (List ℕ)) (after : Held) (tables : Kept) → count ≡ 0 → PassesAhead profile (taken ++ m.passed) count between new has then after tables → PassesAhead profile taken size old new had then after tables
  joined_none count new then after tables z q =
      let same : size + count ≡ size = omega (arith, z) in
      subst (λ n. PassesAhead profile taken n old new had then after tables) same (joined count new then after tables q)

  pub stopped_later : (ahead : List ℕ) (left : Option (List ℕ)) (fault : CheckFault) → StopsAhead profile held (taken ++ m.passed) ahead between left fault → FailsAhead profile taken old left fault
  stopped_later ahead left fault q = record { passed = m.passed; held = held; kept = kept; between = between; ahead = ahead; passing = m.passing; consumed = m.consumed; stops = q }

  pub size_low : length taken + size < 2 ^ 37
  size_low =
      let a = m.counted in let l = length-append taken m.passed in let b = taken_bound profile held (taken ++ m.passed) kept m.passing in omega (arith, a, l, b)

-- ---- a reader whose bytes are taken at once, after they were judged

-- the bytes that are left begin after those that were judged
front_is : (shown front left : List ℕ) → shown ≡ front ++ left → take (length shown - length left) shown ≡ front
front_is shown front left e =
    let len : length shown - length left ≡ length front = let a = ap length e in let l = length-append front left in omega (arith, a, l) in
    ap (λ n. take n shown) len ∙ ap (take (length front)) e ∙ take-append_seam front left

front_longer : (xs front rest : List ℕ) → StartsWith xs front → StartsWith (xs ++ rest) front
front_longer xs front rest h =
    let later = drop (length front) xs in
    let e : xs ++ rest ≡ front ++ (later ++ rest) = ap (λ z. z ++ rest) (starts_with_rest xs front h) ∙ append_assoc front later rest in
    ap (take (length front)) e ∙ take-append_seam front (later ++ rest)

module _ (profile : Profile) (taken shown left : List ℕ) (had has : Option (List ℕ)) (held : Held) (kept : Kept) where
  -- the bytes that were judged, and the record that was refused
  failed_parts : (fault : CheckFault) (f : FailsAhead profile taken (Some shown) (Some left) fault) → shown ≡ (f.passed ++ take (record_len f.ahead) f.ahead) ++ left
  failed_parts fault f = by f.between f.consumed f.stops.consumed
    where
      by : (between : Option (List ℕ)) → Consumes (Some shown) between f.passed → Consumes between (Some left) (take (record_len f.ahead) f.ahead) → shown ≡ (f.passed ++ take (record_len f.ahead) f.ahead) ++ left
      by None c k = absurd c
      by (Some b) c k = consumes_more (Some shown) (Some b) (Some left) f.passed (take (record_len f.ahead) f.ahead) c k

  pub left_fits : (r : Result ℕ CheckFault) → IfOk r (λ size. PassesAhead profile taken size (Some shown) (Some left) had has held kept) → IfErr r (FailsAhead profile taken (Some shown) (Some left)) → length left ≤ length shown
  left_fits (Ok size) h f = let a = ap length h.consumed in let l = length-append h.passed left in omega (arith, a, l)
  left_fits (Err fault) h f =
      let front = f.passed ++ take (record_len f.ahead) f.ahead in
      let a = ap length (failed_parts fault f) in let l = length-append front left in omega (arith, a, l)

  module _ (old new : Option (List ℕ)) (shows : Shows old shown) (took : Consumes old new (take (length shown - length left) shown)) where
    pub shown_passes : (r : Result ℕ CheckFault) → IfOk r (λ size. PassesAhead profile taken size (Some shown) (Some left) had has held kept) → IfOk r (λ size. PassesAhead profile taken size old new had has held kept)
    shown_passes (Ok size) h = record {
      passed = h.passed;
      passing = h.passing;
      counted = h.counted;
      consumed = subst (λ (xs : List ℕ). Consumes old new xs) (front_is shown h.passed left h.consumed) took;
      grown = h.grown;
    }
    shown_passes (Err fault) h = tt

    pub shown_fails : (r : Result ℕ CheckFault) → IfErr r (FailsAhead profile taken (Some shown) (Some left)) → IfErr r (FailsAhead profile taken old new)
    shown_fails (Ok size) f = tt
    shown_fails (Err fault) f =
        let last = take (record_len f.ahead) f.ahead in
        let b = from_refused f.passed f.ahead last old new f.between shows (subst (λ (xs : List ℕ). Consumes old new xs) (front_is shown (f.passed ++ last) left (failed_parts fault f)) took) f.consumed f.stops.shows f.stops.consumed in
        record {
          passed = f.passed;
          held = f.held;
          kept = f.kept;
          between = b.0;
          ahead = f.ahead;
          passing = f.passing;
          consumed = b.1;
          stops = record { shows = b.2; running = f.stops.running; low = f.stops.low; consumed = b.3; fails = f.stops.fails };
        }
      where
        -- what the reader has from the refused record on
        from_refused : (passed ahead last : List ℕ) (old new between : Option (List ℕ)) → Shows old shown → Consumes old new (passed ++ last) → Consumes (Some shown) between passed → Shows between ahead → Consumes between (Some left) last
            → (o : Option (List ℕ)) × Consumes old o passed × Shows o ahead × Consumes o new last
        from_refused passed ahead last None new between s c a h k = (None, tt, tt, tt)
        from_refused passed ahead last (Some xs) None between s c a h k = absurd c
        from_refused passed ahead last (Some xs) (Some ys) None s c a h k = absurd a
        from_refused passed ahead last (Some xs) (Some ys) (Some b) s c a h k =
            let more = drop (length shown) xs in
            let one : xs ≡ passed ++ (b ++ more) = starts_with_rest xs shown s ∙ ap (λ z. z ++ more) a ∙ append_assoc passed b more in
            let two : xs ≡ passed ++ (last ++ ys) = c ∙ append_assoc passed last ys in
            (Some (b ++ more), one, front_longer b ahead more h, append_cancel_left passed (b ++ more) (last ++ ys) (sym one ∙ two))

-- One step of a session: the bytes its framer took, and the invariant after it.
use Rattle.std.proofs.Common.{◌≡◌, ℕ, zero, suc, ◌+◌, ◌-◌, ◌^◌, ◌<◌, ◌≤◌, ◌⊎◌, Bool, true, false, List, [], ◌∷◌, ◌++◌, refl, sym, ◌∙◌, ap, subst, arith, length, length-append, take, inl, inr}
use Rattle.std.specs.Prelude.{◌==◌, Option, Some, None, is_none, ◌&&◌}
use Rattle.omf_frame.specs.Bytes.{AreBytes}
use Rattle.omf_frame.specs.Framing.{Raw, raw_bytes, IsRecord, is_whole, front_record, frame_fault}
use Rattle.omf_frame.specs.Framer.{Held, passed, stands, FailsAs, IsCause}
use Rattle.omf_frame.specs.Framer.{next_bytes as next_of, Takes as FramerTakes}
use Rattle.omf_frame.specs.declared.fault.FrameFault.{FrameFault}
use Rattle.omf_frame.specs.declared.fault.FrameFault.TheVariants as frame
use Rattle.omf_records.specs.Inner.Steps.{AreBytes-take}
use Rattle.omf_image.specs.Limits.{profile_limits}
use Rattle.omf_check.specs.declared.fault.CheckFault.{CheckFault}
use Rattle.omf_check.specs.declared.fault.CheckFault.TheVariants as check
use Rattle.omf_check.specs.declared.profile.Profile.{Profile}
use Rattle.omf_check.specs.Inner.Judging.{raw_fault, rec_of}
use Rattle.omf_check.specs.Inner.Kept.{Kept, IsBounded, with_record}
use Rattle.omf_check.specs.Inner.Passing.{IsPassing, Fails, framing_fault, IsStopped}
use Rattle.omf_check.proofs.Moving.{more_goes_on, passes, passed_sound, start_bound, number_bound}
use Rattle.omf_check.proofs.Refusing.{framer_here, record_here, lacks_first, lacks_part, whole_longer}

append_small : (xs ys : List ℕ) → AreBytes xs → AreBytes ys → AreBytes (xs ++ ys)
append_small [] ys h k i = k i
append_small (x ∷ xs) ys h k zero = h 0
append_small (x ∷ xs) ys h k (suc i) = append_small xs ys (λ j. h (suc j)) k i

and_true : (x y : Bool) → x && y ≡ true → (x ≡ true) × (y ≡ true)
and_true true y h = (refl, h)
and_true false y h = absurd cc

no_fault_kept : (o : Option FrameFault) (f : FrameFault) → o ≡ None → o ≡ Some f → ⊥
no_fault_kept o f e h = cc

module _ (profile : Profile) (held : Held) (taken : List ℕ) (kept : Kept) (p : IsPassing profile held taken kept) where
  by_cause : (piece : List ℕ) (fault : FrameFault) (new : Held) → FailsAs held piece fault new
      → ((held.fault ≡ Some fault) × (new ≡ held)) ⊎ ((held.fault ≡ None) × IsCause held piece fault) → Fails profile held taken piece (framing_fault fault)
  by_cause piece fault new f (inl h) = absurd (no_fault_kept held.fault fault p.no_fault h.0)
  by_cause piece frame.Memory new f (inr h) = lacks_first profile held taken kept p f.not_ended piece h.1.0 h.1.1 h.1.2 h.1.3
  by_cause piece (frame.Refused why at) new f (inr h) = framer_here profile held taken kept p f.not_ended piece why at h.1

  pub framer_fails : (piece : List ℕ) (fault : FrameFault) (new : Held) → FailsAs held piece fault new → Fails profile held taken piece (framing_fault fault)
  framer_fails piece fault new f = by_cause piece fault new f f.cause

  module _ (piece : List ℕ) (count : ℕ) (whole : Bool) (new : Held) (t : FramerTakes held piece count whole new) where
    new_bytes : new.bytes ≡ next_of held piece
    new_bytes = ap (λ h. h.bytes) t.new_is

    new_number : new.number ≡ held.number
    new_number = ap (λ h. h.number) t.new_is

    new_start : new.start ≡ held.start
    new_start = ap (λ h. h.start) t.new_is

    pub start_low : (start : ℕ) → start ≡ new.start → start < 2 ^ 40
    start_low start e = let b = start_bound profile held taken kept p in let s : start ≡ held.start = e ∙ new_start in low start held.start s b
      where
        low : (a b : ℕ) → a ≡ b → b < 2 ^ 40 → a < 2 ^ 40
        low a b e h = subst (λ x. x < 2 ^ 40) (sym e) h

    pub number_low : new.number < 2 ^ 32 - 1
    number_low = let b = number_bound profile held taken kept p in let e = new_number in omega (arith, b, e)

    pub whole_now : stands new ≡ true → is_whole (next_of held piece) ≡ true
    whole_now s = ap is_whole (sym new_bytes) ∙ (and_true (is_none new.fault) (is_whole new.bytes) s).1

    framed_now : frame_fault (new.number == 0) new.bytes ≡ None → frame_fault (held.number == 0) (next_of held piece) ≡ None
    framed_now f = ap (λ x. frame_fault (x == 0) (next_of held piece)) (sym new_number) ∙ ap (frame_fault (new.number == 0)) (sym new_bytes) ∙ f

    record_now : IsRecord (front_record new.bytes) → IsRecord (front_record (next_of held piece))
    record_now is = subst (λ x. IsRecord (front_record x)) new_bytes is

    back_now : raw_bytes (front_record new.bytes) ≡ new.bytes → raw_bytes (front_record (next_of held piece)) ≡ next_of held piece
    back_now back = ap (λ x. raw_bytes (front_record x)) (sym new_bytes) ∙ back ∙ new_bytes

    judged_now : (kind : ℕ) (body : List ℕ) → kind ≡ (front_record new.bytes).kind → body ≡ (front_record new.bytes).body → raw_fault profile profile_limits kept kind body ≡ None
        → raw_fault profile profile_limits kept (front_record (next_of held piece)).kind (front_record (next_of held piece)).body ≡ None
    judged_now kind body k b judged =
        let r : Raw = front_record (next_of held piece) in
        let kind_is : kind ≡ r.kind = k ∙ ap (λ x. (front_record x).kind) new_bytes in
        let body_is : body ≡ r.body = b ∙ ap (λ x. (front_record x).body) new_bytes in
        ap (λ x. raw_fault profile profile_limits kept x r.body) (sym kind_is) ∙ ap (raw_fault profile profile_limits kept kind) (sym body_is) ∙ judged

    if_ended : Bool → List ℕ
    if_ended b = next_of (record held { ended = b }) piece

    empty : false ≡ true → ⊥
    empty e = cc

    running_by : (b : Bool) → held.ended ≡ b → is_whole (next_of held piece) ≡ true → held.ended ≡ false
    unfolding if_ended
    running_by false e w = e
    running_by true e w = absurd (empty (ap (λ b. is_whole (if_ended b)) (sym e) ∙ w))

    running_now : (b : Bool) → held.ended ≡ b → length held.bytes < length (next_of held piece) → held.ended ≡ false
    unfolding if_ended
    running_now false e more = e
    running_now true e more = absurd (none (length held.bytes) (subst (λ b. length held.bytes < length (if_ended b)) e more))
      where
        none : (n : ℕ) → n < 0 → ⊥
        none n h = omega (arith, h)

    -- memory ran out after a record without fault
    longer : 0 < length (take count piece) → length held.bytes < length (next_of held piece)
    longer some =
        let e : length (next_of held piece) ≡ length held.bytes + length (take count piece) = ap length t.grown ∙ length-append held.bytes (take count piece) in
        omega (arith, e, some)

    passed_lacks : AreBytes (take count piece) → is_whole (next_of held piece) ≡ true → IsRecord (front_record (next_of held piece)) → raw_bytes (front_record (next_of held piece)) ≡ next_of held piece
        → frame_fault (held.number == 0) (next_of held piece) ≡ None → raw_fault profile profile_limits kept (front_record (next_of held piece)).kind (front_record (next_of held piece)).body ≡ None
        → Fails profile held taken piece check.Memory
    passed_lacks small w is back f judged = record {
      count = count;
      needed = whole_longer held.bytes (take count piece) (next_of held piece) t.grown p.partial w;
      judged = inl t.grown;
      sound = passed_sound profile held taken kept p piece count whole new t (append_small taken (take count piece) p.small small) w is back f judged;
    }

    -- memory ran out within a record
    pub part_lacks : 0 < length (take count piece) → stands new ≡ false → Fails profile held taken piece check.Memory
    part_lacks some s =
        lacks_part profile held taken kept p (running_now held.ended refl (longer some)) piece count t.grown (longer some)
        (ap is_whole (sym new_bytes) ∙ ap (λ o. is_none o && is_whole new.bytes) (sym (ap (λ h. h.fault) t.new_is ∙ p.no_fault)) ∙ s) t.sound

    by_fault : (fault : CheckFault) → AreBytes (take count piece) → is_whole (next_of held piece) ≡ true → frame_fault (held.number == 0) (next_of held piece) ≡ None
        → IsRecord (front_record (next_of held piece)) → raw_bytes (front_record (next_of held piece)) ≡ next_of held piece
        → IsStopped (raw_fault profile profile_limits kept (front_record (next_of held piece)).kind (front_record (next_of held piece)).body) held.number held.start fault → Fails profile held taken piece fault
    by_fault check.Memory small w f is back h = passed_lacks small w is back f h
    by_fault check.Read small w f is back h = h
    by_fault (check.Refused why at) small w f is back h =
        record_here profile held taken kept p (running_by held.ended refl w) piece count t.grown small why at w f h

    -- the record that stands, as it is shown
    pub take_fails : (fault : CheckFault) (kind number start : ℕ) (body : List ℕ) → stands new ≡ true → frame_fault (new.number == 0) new.bytes ≡ None
        → IsRecord (front_record new.bytes) → raw_bytes (front_record new.bytes) ≡ new.bytes
        → kind ≡ (front_record new.bytes).kind → body ≡ (front_record new.bytes).body → number ≡ new.number → start ≡ new.start
        → AreBytes piece → IsStopped (raw_fault profile profile_limits kept kind body) number start fault → Fails profile held taken piece fault
    take_fails fault kind number start body s f is back k b n st small h =
        let nb = new_bytes in
        let P : ℕ → List ℕ → ℕ → ℕ → Type 0 = λ kd bd nm sr. IsStopped (raw_fault profile profile_limits kept kd bd) nm sr fault in
        let h1 = subst (λ x. P x body number start) (k ∙ ap (λ x. (front_record x).kind) nb) h in
        let h2 = subst (λ x. P (front_record (next_of held piece)).kind x number start) (b ∙ ap (λ x. (front_record x).body) nb) h1 in
        let h3 = subst (λ x. P (front_record (next_of held piece)).kind (front_record (next_of held piece)).body x start) (n ∙ new_number) h2 in
        let h4 = subst (λ x. P (front_record (next_of held piece)).kind (front_record (next_of held piece)).body held.number x) (st ∙ new_start) h3 in
        by_fault fault (AreBytes-take count piece small) (whole_now s) (framed_now f) (record_now is) (back_now back) h4

    -- memory ran out for the bytes taken, after that record
    pub record_lacks : (kind : ℕ) (body : List ℕ) → AreBytes piece → stands new ≡ true → frame_fault (new.number == 0) new.bytes ≡ None
        → IsRecord (front_record new.bytes) → raw_bytes (front_record new.bytes) ≡ new.bytes → kind ≡ (front_record new.bytes).kind → body ≡ (front_record new.bytes).body
        → raw_fault profile profile_limits kept kind body ≡ None → Fails profile held taken piece check.Memory
    record_lacks kind body small s f is back k b judged =
        passed_lacks (AreBytes-take count piece small) (whole_now s) (record_now is) (back_now back) (framed_now f) (judged_now kind body k b judged)

    -- the invariant after the step
    pub none_passed : (now : List ℕ) → now ≡ taken ++ take count piece → AreBytes piece → length new.bytes ≤ 65538 → stands new ≡ false → IsPassing profile new now kept
    none_passed now e small short s =
        subst (λ x. IsPassing profile new x kept) (sym e) (more_goes_on profile held taken kept p piece count whole new t (append_small taken (take count piece) p.small (AreBytes-take count piece small)) short s)

    pub record_passed : (now : List ℕ) (after : Held) (tables : Kept) (kind start : ℕ) (body : List ℕ) → now ≡ taken ++ take count piece → AreBytes piece → stands new ≡ true
        → after ≡ passed new → frame_fault (new.number == 0) new.bytes ≡ None → IsRecord (front_record new.bytes) → raw_bytes (front_record new.bytes) ≡ new.bytes
        → kind ≡ (front_record new.bytes).kind → body ≡ (front_record new.bytes).body → start ≡ new.start
        → raw_fault profile profile_limits kept kind body ≡ None → tables ≡ with_record kept start (rec_of kind body) → IsBounded tables → IsPassing profile after now tables
    record_passed now after tables kind start body e small s a f is back k b st judged kt bound =
        let nb = new_bytes in
        let bytes : List ℕ = next_of held piece in
        let r : Raw = front_record bytes in
        let kind_is : kind ≡ r.kind = k ∙ ap (λ x. (front_record x).kind) nb in
        let body_is : body ≡ r.body = b ∙ ap (λ x. (front_record x).body) nb in
        let tables_are : tables ≡ with_record kept held.start (rec_of r.kind r.body)
        = kt ∙ ap (λ x. with_record kept x (rec_of kind body)) (st ∙ new_start) ∙ ap (λ x. with_record kept held.start (rec_of x body)) kind_is ∙ ap (λ x. with_record kept held.start (rec_of r.kind x)) body_is in
        let done : IsPassing profile (passed (record held { bytes = bytes })) (taken ++ take count piece) (with_record kept held.start (rec_of r.kind r.body))
        = passes profile held taken kept p piece count whole new t (append_small taken (take count piece) p.small (AreBytes-take count piece small)) (whole_now s)
        (record_now is) (back_now back) (framed_now f) (judged_now kind body k b judged) (subst IsBounded tables_are bound) in
        subst (λ x. IsPassing profile x now tables) (sym (a ∙ ap passed t.new_is))
        (subst (λ x. IsPassing profile (passed (record held { bytes = bytes })) x tables) (sym e)
        (subst (λ x. IsPassing profile (passed (record held { bytes = bytes })) (taken ++ take count piece) x) (sym tables_are) done))

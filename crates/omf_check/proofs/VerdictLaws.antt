-- Every input is accepted or refused, and the verdict shows which.
use Rattle.std.proofs.Common.{◌≡◌, ℕ, zero, suc, ◌+◌, ◌<◌, List, [], ◌∷◌, ◌++◌, refl, sym, ◌∙◌, ap, subst, length, arith, append_assoc, Bool, true, false, inl, inr}
use Rattle.std.specs.Prelude.{All, flat_map, IsTrue, not, ◌⊎◌, ◌↔◌, slice_index, Option, Some, None}
use Rattle.std.proofs.lemmas.List.{append-nil}
use Rattle.std.proofs.lemmas.Grind.{flat_map-append}
use Rattle.std.proofs.lemmas.List.Elements.{All-append}
use Rattle.omf_check.specs.Inner.Names.{steps, place_after, is_empty}
use Rattle.omf_check.specs.declared.profile.Profile.{Profile}
use Rattle.omf_image.specs.declared.limits.Limits.{Limits}
use Rattle.omf_frame.specs.declared.fault.Reason.{Reason}
use Rattle.omf_frame.specs.declared.fault.Place.{Place}
use Rattle.omf_frame.specs.Fault.{Fault, IsLeast, least, least_or, first_step}
use Rattle.omf_frame.specs.Framing.{Raw, raw_bytes, IsRecord, is_taken, is_header, is_end, present, front_record, after_front, frame_steps, HasFront}
use Rattle.omf_records.specs.Records.{IsTyped}
use Rattle.omf_records.specs.Inner.Reading.{typed}
use Rattle.omf_check.specs.Inner.Faults.{record_steps}
use Rattle.omf_check.specs.Refusal.{IsRefused}
use Rattle.omf_check.specs.Inner.Verdict.{Verdict, Accepted, Refused, Unknown, verdict, verdict_from}
use Rattle.omf_check.specs.WellFormed.{IsWellFormed, IsAccepted, HasTrees}
use Rattle.omf_frame.specs.Bytes.{AreBytes}
use Rattle.omf_records.specs.Inner.LawProofs.{decided}
use Rattle.omf_records.specs.Inner.Steps.{AreBytes-front, AreBytes-back}
use Rattle.omf_check.proofs.TreeLaws.{trees_of}
use Rattle.omf_frame.proofs.FaultLaws.{all_cons, least_is_least}
use Rattle.omf_check.proofs.WellLaws.{well-formed}
use Rattle.omf_check.proofs.RefusedLaws.{refused-first, body_small, present_small}
use Rattle.omf_check.proofs.UniqueLaws.{AreSound, sound_first, sound_rest, refused_once}
use Rattle.omf_frame.proofs.StepLaws.{has_front, framed_of, first_parts}
use Rattle.omf_check.proofs.StepLaws.{IsSound, sound_of}
use Rattle.omf_check.proofs.AcceptLaws.{all_middle, accepted_once, never_both}

pub all_none : {A : Type 0} (P : A → Type 0) → All P []
all_none P k d low = absurd (omega (arith, low))

-- what holds wherever a list is split holds of all
all_split : {A : Type 0} (P : A → Type 0) (xs : List A) → ((earlier later : List A) (x : A) → xs ≡ earlier ++ x ∷ later → P x) → All P xs
all_split P [] h = all_none P
all_split P (x ∷ xs) h = all_cons P x xs (h [] xs x refl) (all_split P xs (λ earlier later y e. h (x ∷ earlier) later y (ap (λ t. x ∷ t) e)))

nothing_split : (earlier later : List Raw) (r : Raw) → [] ≡ earlier ++ r ∷ later → ⊥
nothing_split [] later r e = cc
nothing_split (x ∷ earlier) later r e = cc

module _ (profile : Profile) (limits : Limits) where
  pub sound_none : (done : List Raw) → AreSound profile limits done []
  unfolding AreSound
  sound_none done earlier later r e = absurd (nothing_split earlier later r e)

  sound_cons : (done xs : List Raw) (x : Raw) → first_step (steps profile limits done (raw_bytes x)) ≡ [] → AreSound profile limits (done ++ x ∷ []) xs → AreSound profile limits done (x ∷ xs)
  unfolding AreSound
  sound_cons done xs x s h [] later y e =
      let same : x ≡ y = cc in
      ap (λ d. first_step (steps profile limits d (raw_bytes y))) (append-nil done) ∙ subst (λ z. first_step (steps profile limits done (raw_bytes z)) ≡ []) same s
  sound_cons done xs x s h (z ∷ earlier) later y e =
      let same : x ≡ z = cc in
      let others : xs ≡ earlier ++ y ∷ later = cc in
      ap (λ d. first_step (steps profile limits d (raw_bytes y))) (ap (λ t. done ++ t ∷ earlier) (sym same) ∙ sym (append_assoc done (x ∷ []) earlier)) ∙ h earlier later y others

  -- one more record without fault
  pub sound_more : (done xs : List Raw) (x : Raw) → AreSound profile limits done xs → first_step (steps profile limits (done ++ xs) (raw_bytes x)) ≡ [] → AreSound profile limits done (xs ++ x ∷ [])
  sound_more done [] x s h = sound_cons done [] x (ap (λ d. first_step (steps profile limits d (raw_bytes x))) (sym (append-nil done)) ∙ h) (sound_none (done ++ x ∷ []))
  sound_more done (y ∷ xs) x s h =
      sound_cons done (xs ++ x ∷ []) y (sound_first profile limits done xs y s)
      (sound_more (done ++ y ∷ []) xs x (sound_rest profile limits done xs y s)
      (ap (λ d. first_step (steps profile limits d (raw_bytes x))) (append_assoc done (y ∷ []) xs) ∙ h))

  sound_at : (rs : List Raw) → All IsRecord rs → AreSound profile limits [] rs → (earlier later : List Raw) (r : Raw) → rs ≡ earlier ++ r ∷ later → IsSound profile limits earlier r
  unfolding AreSound
  sound_at rs records sound earlier later r e = sound_of profile limits earlier r (all_middle IsRecord rs earlier later r e records) (sound earlier later r e)

  header_first : (rs front : List Raw) (end : Raw) → rs ≡ front ++ end ∷ [] → All IsRecord rs → AreSound profile limits [] rs → IsTrue (is_header (slice_index (flat_map raw_bytes rs) 0))
  header_first [] front end e records sound = absurd (nothing_split front [] end e)
  header_first (x ∷ xs) front end e records sound = (sound_at (x ∷ xs) records sound [] xs x refl).headed

  -- Records without fault up to the first MODEND are a module.
  pub sound_module : (front : List Raw) (end : Raw) → All IsRecord (front ++ end ∷ []) → All (λ r. AreBytes r.body) (front ++ end ∷ [])
      → IsTrue (is_end end.kind) → All (λ r. IsTrue (not (is_end r.kind))) front → AreSound profile limits [] (front ++ end ∷ [])
      → IsWellFormed profile limits (flat_map raw_bytes (front ++ end ∷ [])) (front ++ end ∷ [])
  sound_module front end records bodies is_last running sound =
      let rs : List Raw = front ++ end ∷ [] in
      let at = sound_at rs records sound in
      let typed_at : (earlier later : List Raw) (r : Raw) → rs ≡ earlier ++ r ∷ later → IsTyped (typed r) r.body
      = λ earlier later r e. (decided r (all_middle (λ x. AreBytes x.body) rs earlier later r e bodies)).1 (at earlier later r e).read in
      well-formed profile limits (flat_map raw_bytes (front ++ end ∷ [])) (front ++ end ∷ []) (record {
        framed = record {
          spelled = refl;
          each = records;
          types = all_split (λ r. IsTrue (is_taken r.kind)) rs (λ earlier later r e. (at earlier later r e).known);
          first = header_first rs front end refl records sound;
          last = (front, end, refl, is_last, running);
        };
        spelled = all_split (λ r. IsTyped (typed r) r.body) rs typed_at;
        blocks = all_split (λ r. HasTrees limits r.kind (typed r).contents) rs (λ earlier later r e.
            trees_of limits r (all_middle (λ x. AreBytes x.body) rs earlier later r e bodies) (typed_at earlier later r e) (at earlier later r e).blocks (at earlier later r e).long);
        kept = λ earlier later r e. (at earlier later r e).kept;
      })

module _ (profile : Profile) (limits : Limits) (input : List ℕ) where
  -- The meaning of a verdict.
  unfoldable pub Means : Verdict → Type 0
  Means (Accepted rs) = IsAccepted profile limits input rs
  Means (Refused why at) = IsRefused profile limits input why at
  Means Unknown = ⊥

  -- The input goes on with these bytes, after records without fault.
  record Reached (before : List Raw) (bytes : List ℕ) : Type 0 where
    spelled : input ≡ flat_map raw_bytes before ++ bytes
    records : All IsRecord before
    running : All (λ r. IsTrue (not (is_end r.kind))) before
    sound : AreSound profile limits [] before
    bodies : All (λ r. AreBytes r.body) before
    small : AreBytes bytes

  split_more : (before : List Raw) (r : Raw) (rest : List ℕ) → flat_map raw_bytes before ++ (raw_bytes r ++ rest) ≡ flat_map raw_bytes (before ++ r ∷ []) ++ rest
  split_more before r rest =
      let end : flat_map raw_bytes (r ∷ []) ≡ raw_bytes r = append-nil (raw_bytes r) in
      sym (append_assoc (flat_map raw_bytes before) (raw_bytes r) rest)
      ∙ ap (λ t. (flat_map raw_bytes before ++ t) ++ rest) (sym end)
      ∙ ap (λ t. t ++ rest) (sym (flat_map-append raw_bytes before (r ∷ [])))

  small_body : (r : Raw) (rest : List ℕ) → AreBytes (raw_bytes r ++ rest) → AreBytes r.body
  small_body r rest h = AreBytes-front r.body (r.checksum ∷ []) (AreBytes-front (r.body ++ r.checksum ∷ []) rest (λ i. h (suc (suc (suc i)))))

  module _ (before : List Raw) (bytes rest : List ℕ) (r : Raw) (now : Reached before bytes) (is_record : IsRecord r) (parts : bytes ≡ raw_bytes r ++ rest)
      (step : first_step (steps profile limits before (raw_bytes r)) ≡ []) where
    more_spelled : input ≡ flat_map raw_bytes (before ++ r ∷ []) ++ rest
    more_spelled = now.spelled ∙ ap (λ t. flat_map raw_bytes before ++ t) parts ∙ split_more before r rest

    more_records : All IsRecord (before ++ r ∷ [])
    more_records = All-append IsRecord before (r ∷ []) now.records (all_cons IsRecord r [] is_record (all_none IsRecord))

    small_parts : AreBytes (raw_bytes r ++ rest)
    small_parts = subst AreBytes parts now.small

    more_bodies : All (λ r. AreBytes r.body) (before ++ r ∷ [])
    more_bodies =
        let P : Raw → Type 0 = λ x. AreBytes x.body in
        All-append P before (r ∷ []) now.bodies (all_cons P r [] (small_body r rest small_parts) (all_none P))

    more_sound : AreSound profile limits [] (before ++ r ∷ [])
    more_sound = sound_more profile limits [] before r now.sound step

    ended : IsTrue (is_end r.kind) → Means (Accepted (before ++ r ∷ []))
    unfolding Means
    ended e = record {
      bytes = flat_map raw_bytes (before ++ r ∷ []);
      rest = rest;
      spelled = more_spelled;
      well_formed = sound_module profile limits before r more_records more_bodies e now.running more_sound;
    }

    goes_on : IsTrue (not (is_end r.kind)) → Reached (before ++ r ∷ []) rest
    goes_on e =
        let P : Raw → Type 0 = λ x. IsTrue (not (is_end x.kind)) in
        record {
          spelled = more_spelled;
          records = more_records;
          running = All-append P before (r ∷ []) now.running (all_cons P r [] e (all_none P));
          sound = more_sound;
          bodies = more_bodies;
          small = AreBytes-back (raw_bytes r) rest small_parts;
        }

  -- the cases of the verdict
  abbrev after_end : ℕ → List Raw → List ℕ → Bool → Verdict
  after_end fuel before bytes b = elim b [
    | true ↦ Accepted (before ++ front_record (present bytes) ∷ [])
    | false ↦ verdict_from fuel profile limits (before ++ front_record (present bytes) ∷ []) (after_front bytes)
  ]

  abbrev after_least : ℕ → List Raw → List ℕ → Option Fault → Verdict
  after_least fuel before bytes o = elim o [
    | Some f ↦ Refused f.reason (place_after before f)
    | None ↦ after_end fuel before bytes (is_end (front_record (present bytes)).kind)
  ]

  refused_here : (before : List Raw) (bytes : List ℕ) (f : Fault) (fs : List Fault) → Reached before bytes
      → first_step (steps profile limits before (present bytes)) ≡ f ∷ fs → Means (Refused (least_or f fs).reason (place_after before (least_or f fs)))
  unfolding Means AreSound
  refused_here before bytes f fs now e = refused-first profile limits input (least_or f fs).reason (place_after before (least_or f fs)) (record {
    before = before;
    rest = bytes;
    found = least_or f fs;
    spelled = now.spelled;
    records = now.records;
    running = now.running;
    sound = now.sound;
    least = subst (λ gs. IsLeast gs (least_or f fs)) (sym e) (least_is_least f fs);
    named = refl;
    there = refl;
  }) now.bodies (λ n. body_small (present bytes) (present_small bytes now.small))

  front_here : (before : List Raw) (bytes : List ℕ) → Reached before bytes → first_step (steps profile limits before (present bytes)) ≡ [] → HasFront bytes
  front_here before bytes now e =
      let h = first_parts (frame_steps (is_empty before) (present bytes)) (record_steps profile limits before (front_record (present bytes))) e in
      has_front (is_empty before) bytes now.small (framed_of (is_empty before) (present bytes) h.0)

  by_end : (fuel : ℕ) (before : List Raw) (bytes : List ℕ) (b : Bool) → Reached before bytes → first_step (steps profile limits before (present bytes)) ≡ [] → HasFront bytes
      → is_end (front_record (present bytes)).kind ≡ b
      → (Reached (before ++ front_record (present bytes) ∷ []) (after_front bytes) → Means (verdict_from fuel profile limits (before ++ front_record (present bytes) ∷ []) (after_front bytes)))
      → Means (after_end fuel before bytes b)
  by_end fuel before bytes true now e h is others =
      ended before bytes (after_front bytes) (front_record (present bytes)) now h.is_record (h.parts ∙ ap (λ t. t ++ after_front bytes) (sym h.whole))
      (ap (λ t. first_step (steps profile limits before t)) h.whole ∙ e) is
  by_end fuel before bytes false now e h is others =
      others (goes_on before bytes (after_front bytes) (front_record (present bytes)) now h.is_record (h.parts ∙ ap (λ t. t ++ after_front bytes) (sym h.whole))
      (ap (λ t. first_step (steps profile limits before t)) h.whole ∙ e) (ap not is))

  by_faults : (fuel : ℕ) (before : List Raw) (bytes : List ℕ) (fs : List Fault) → Reached before bytes → first_step (steps profile limits before (present bytes)) ≡ fs
      → length bytes < suc fuel
      → (length (after_front bytes) < fuel → Reached (before ++ front_record (present bytes) ∷ []) (after_front bytes) → Means (verdict_from fuel profile limits (before ++ front_record (present bytes) ∷ []) (after_front bytes)))
      → Means (after_least fuel before bytes (least fs))
  by_faults fuel before bytes (f ∷ fs) now e low others = refused_here before bytes f fs now e
  by_faults fuel before bytes [] now e low others =
      let h : HasFront bytes = front_here before bytes now e in
      let less : length (after_front bytes) < fuel = omega (arith, h.shorter, low) in
      by_end fuel before bytes (is_end (front_record (present bytes)).kind) now e h refl (others less)

  verdict_means : (fuel : ℕ) (before : List Raw) (bytes : List ℕ) → length bytes < fuel → Reached before bytes → Means (verdict_from fuel profile limits before bytes)
  verdict_means zero before bytes low now = absurd (omega (arith, low))
  verdict_means (suc fuel) before bytes low now =
      by_faults fuel before bytes (first_step (steps profile limits before (present bytes))) now refl low
      (λ less. verdict_means fuel (before ++ front_record (present bytes) ∷ []) (after_front bytes) less)

  pub verdict_true : AreBytes input → Means (verdict profile limits input)
  verdict_true small = verdict_means (length input + 1) [] input (omega arith) (record {
    spelled = refl;
    records = all_none IsRecord;
    running = all_none (λ r. IsTrue (not (is_end r.kind)));
    sound = sound_none profile limits [];
    bodies = all_none (λ r. AreBytes r.body);
    small = small;
  })

  -- Every input is accepted or refused.
  either_of : (v : Verdict) → Means v → ((rs : List Raw) × IsAccepted profile limits input rs) ⊎ ((why : Reason) × (at : Place) × IsRefused profile limits input why at)
  unfolding Means
  either_of (Accepted rs) h = inl (rs, h)
  either_of (Refused why at) h = inr (why, at, h)
  either_of Unknown h = absurd h

  pub either : AreBytes input → ((rs : List Raw) × IsAccepted profile limits input rs) ⊎ ((why : Reason) × (at : Place) × IsRefused profile limits input why at)
  either small = either_of (verdict profile limits input) (verdict_true small)

  -- The verdict shows which.
  accepted_says : (v : Verdict) (rs : List Raw) → Means v → IsAccepted profile limits input rs → v ≡ Accepted rs
  unfolding Means
  accepted_says (Accepted ss) rs h a = ap (λ x. Accepted x) (accepted_once profile limits input ss rs h a).0
  accepted_says (Refused why at) rs h a = absurd (never_both profile limits input rs why at a h)
  accepted_says Unknown rs h a = absurd h

  refused_says : (v : Verdict) (why : Reason) (at : Place) → Means v → IsRefused profile limits input why at → v ≡ Refused why at
  unfolding Means
  refused_says (Accepted ss) why at h r = absurd (never_both profile limits input ss why at h r)
  refused_says (Refused other there) why at h r =
      let same = refused_once profile limits input other why there at h r in
      ap (λ x. Refused x there) same.0 ∙ ap (λ x. Refused why x) same.1
  refused_says Unknown why at h r = absurd h

  pub verdict_accepts : AreBytes input → (rs : List Raw) → (verdict profile limits input ≡ Accepted rs) ↔ IsAccepted profile limits input rs
  unfolding Means
  verdict_accepts small rs = (λ e. subst Means e (verdict_true small), λ h. accepted_says (verdict profile limits input) rs (verdict_true small) h)

  pub verdict_refuses : AreBytes input → (why : Reason) (at : Place) → (verdict profile limits input ≡ Refused why at) ↔ IsRefused profile limits input why at
  unfolding Means
  verdict_refuses small why at = (λ e. subst Means e (verdict_true small), λ h. refused_says (verdict profile limits input) why at (verdict_true small) h)

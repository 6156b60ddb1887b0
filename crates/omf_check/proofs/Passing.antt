-- A session accepts records: its invariant is kept, and its refusals are right.
use Rattle.std.proofs.Common.{◌≡◌, ℕ, suc, ◌+◌, ◌*◌, ◌^◌, ◌<◌, Bool, true, false, List, [], ◌∷◌, ◌++◌, refl, sym, ◌∙◌, ap, subst, arith, append_assoc, length, inl, inr}
use Rattle.std.specs.Prelude.{All, flat_map, IsTrue, ◌==◌, cond, Option, Some, None, option_map}
use Rattle.std.proofs.lemmas.List.{append-nil}
use Rattle.std.proofs.lemmas.Bool.{ne_eqb}
use Rattle.std.proofs.lemmas.Bool.Decides.{leb_tells}
use Rattle.std.proofs.lemmas.Grind.{flat_map-append}
use Rattle.std.proofs.lemmas.List.Elements.{All-append}
use Rattle.omf_frame.specs.Bytes.{AreBytes}
use Rattle.omf_frame.specs.Fault.{Fault, IsLeast, least, least_or, first_step}
use Rattle.omf_frame.specs.Framing.{Raw, raw_bytes, is_end_of_input, is_whole, wanted, present, front_record, frame_steps, frame_fault, standing_fault}
use Rattle.omf_frame.specs.Inner.Names.{lasting}
use Rattle.omf_frame.specs.Framer.{Held, refused}
use Rattle.omf_frame.specs.Framer.{next_bytes as next_of}
use Rattle.omf_frame.specs.declared.fault.FrameFault.TheVariants as frame
use Rattle.omf_frame.specs.declared.fault.Place.{Place}
use Rattle.omf_frame.specs.declared.fault.Reason.{Reason}
use Rattle.omf_frame.proofs.FaultLaws.{least_is_least, all_cons}
use Rattle.omf_frame.proofs.FramingLaws.{present-append}
use Rattle.omf_frame.proofs.Standing.{present_twice, present_part, whole_present, standing_stays}
use Rattle.omf_frame.proofs.StepLaws.{clean_steps, framed_of}
use Rattle.omf_image.specs.Limits.{profile_limits}
use Rattle.omf_check.specs.Inner.Names.{IsModule, is_empty}
use Rattle.omf_check.specs.declared.fault.CheckFault.TheVariants as check
use Rattle.omf_check.specs.declared.profile.Profile.{Profile}
use Rattle.omf_check.specs.Inner.Judging.{raw_fault}
use Rattle.omf_check.specs.Inner.Kept.{Kept}
use Rattle.omf_check.specs.Inner.Faults.{faults_after, record_steps}
use Rattle.omf_check.specs.Refusal.{IsRefused, AreSoundSoFar}
use Rattle.omf_check.specs.WellFormed.{IsAccepted}
use Rattle.omf_check.specs.Session.{Seen, IsOpen}
use Rattle.omf_check.specs.Inner.Passing.{IsPassing, refused_at}
pub use Rattle.omf_check.proofs.RefusedLaws.{bodies_of}
use Rattle.omf_check.proofs.RefusedLaws.{refused-first, body_small}
use Rattle.omf_check.proofs.AcceptLaws.{never_both}
use Rattle.omf_check.proofs.RecordLaws.{raw_law}
use Rattle.omf_check.proofs.VerdictLaws.{all_none}

-- Least faults.
some_same : {A : Type 0} (x y : A) → ◌≡◌ {A = Option A} (Some x) (Some y) → x ≡ y
some_same x y e = cc

pub least_some : (fs : List Fault) (f : Fault) → least fs ≡ Some f → IsLeast fs f
least_some [] f e = absurd cc
least_some (g ∷ gs) f e = subst (λ x. IsLeast (g ∷ gs) x) (some_same (least_or g gs) f e) (least_is_least g gs)

pub first_some : (xs ys : List (List Fault)) (f : Fault) → least (first_step xs) ≡ Some f → least (first_step (xs ++ ys)) ≡ Some f
first_some [] ys f e = absurd cc
first_some ([] ∷ xs) ys f e = first_some xs ys f e
first_some ((g ∷ gs) ∷ xs) ys f e = e

pub first_none : (xs ys : List (List Fault)) → first_step xs ≡ [] → first_step (xs ++ ys) ≡ first_step ys
first_none [] ys e = refl
first_none ([] ∷ xs) ys e = first_none xs ys e
first_none ((g ∷ gs) ∷ xs) ys e = absurd cc

lasting_by : (b : Bool) (g f : Fault) → cond b None (Some g) ≡ Some f → Some g ≡ Some f
lasting_by true g f e = absurd cc
lasting_by false g f e = e

lasting_some : (o : Option Fault) (f : Fault) → lasting o ≡ Some f → o ≡ Some f
lasting_some None f e = absurd cc
lasting_some (Some g) f e = lasting_by (is_end_of_input g.reason) g f e

lasting_none : (f : Fault) → lasting (Some f) ≡ None → IsTrue (is_end_of_input f.reason)
lasting_none f e = by (is_end_of_input f.reason) f e
  where
    by : (b : Bool) (f : Fault) → cond b None (Some f) ≡ None → IsTrue b
    by true f e = refl
    by false f e = absurd cc

pub first_number : (n : ℕ) (before : List Raw) → n ≡ length before → n == 0 ≡ is_empty before
first_number n [] e = ap (λ k. k == 0) e
first_number n (r ∷ rs) e = ne_eqb n 0 (λ z. some n (length rs) z e)
  where
    some : (n k : ℕ) → n ≡ 0 → n ≡ suc k → ⊥
    some n k z e = omega (arith, z, e)

-- A part of a record wants more.
some_wanted : (bytes : List ℕ) → is_whole bytes ≡ false → 0 < wanted bytes
some_wanted [] h = omega arith
some_wanted (t ∷ []) h = omega arith
some_wanted (t ∷ lo ∷ []) h = omega arith
some_wanted (t ∷ lo ∷ hi ∷ bytes) h = elim (leb_tells (lo + 256 * hi) (length bytes)) [ inl s ↦ absurd (both (sym s.0 ∙ h)) | inr s ↦ omega (arith, s.1) ]
  where
    both : true ≡ false → ⊥
    both e = cc

pub flat_more : (before : List Raw) (r : Raw) → flat_map raw_bytes (before ++ r ∷ []) ≡ flat_map raw_bytes before ++ raw_bytes r
flat_more before r = flat_map-append raw_bytes before (r ∷ []) ∙ ap (λ t. flat_map raw_bytes before ++ t) (append-nil (raw_bytes r))

pub all_more : (P : Raw → Type 0) (before : List Raw) (r : Raw) → All P before → P r → All P (before ++ r ∷ [])
all_more P before r h p = All-append P before (r ∷ []) h (all_cons P r [] p (all_none P))

module _ (profile : Profile) (held : Held) (taken : List ℕ) (kept : Kept) (p : IsPassing profile held taken kept) where
  is_first : held.number == 0 ≡ is_empty p.before
  is_first = first_number held.number p.before p.number

  -- Refusals. A fault of framing is found whatever the contents are.
  abbrev IsSmall : List ℕ → Type 0
  IsSmall bytes = first_step (frame_steps (is_empty p.before) bytes) ≡ [] → AreBytes (front_record bytes).body

  framing_small : (bytes : List ℕ) (f : Fault) → frame_fault (held.number == 0) bytes ≡ Some f → IsSmall bytes
  framing_small bytes f e n = absurd (none_some f (sym (ap least n) ∙ ap (λ b. frame_fault b bytes) (sym is_first) ∙ e))
    where
      none_some : (f : Fault) → ◌≡◌ {A = Option Fault} None (Some f) → ⊥
      none_some f e = cc

  pub refused_by : held.ended ≡ false → (bytes : List ℕ) (f : Fault) → IsSmall (present (held.bytes ++ bytes)) → IsLeast (faults_after profile profile_limits p.before (present (held.bytes ++ bytes))) f
      → IsRefused profile profile_limits (taken ++ bytes) f.reason (record { number = held.number; start = held.start; within = f.within })
  refused_by e bytes f small least = refused-first profile profile_limits (taken ++ bytes) f.reason (record { number = held.number; start = held.start; within = f.within }) (record {
    before = p.before;
    rest = held.bytes ++ bytes;
    found = f;
    spelled = ap (λ t. t ++ bytes) p.spelled ∙ append_assoc (flat_map raw_bytes p.before) held.bytes bytes;
    records = p.records;
    running = p.running e;
    sound = p.sound;
    least = least;
    named = refl;
    there = there f.within;
  }) (bodies_of p.before held.bytes (subst AreBytes p.spelled p.small)) small
    where
      there : (w : ℕ) → let a : Place = record { number = held.number; start = held.start; within = w } in let b : Place = record { number = length p.before; start = length (flat_map raw_bytes p.before); within = w } in a ≡ b
      there w =
          let by_number = λ (n : ℕ). let a : Place = record { number = n; start = held.start; within = w } in a in
          let by_start = λ (n : ℕ). let a : Place = record { number = length p.before; start = n; within = w } in a in
          ap by_number p.number ∙ ap by_start p.start

  frame_refused : (bytes : List ℕ) (f : Fault) → frame_fault (held.number == 0) bytes ≡ Some f → IsLeast (faults_after profile profile_limits p.before bytes) f
  frame_refused bytes f e =
      least_some _ f (first_some (frame_steps (is_empty p.before) bytes) (record_steps profile profile_limits p.before (front_record bytes)) f (ap (λ b. frame_fault b bytes) (sym is_first) ∙ e))

  record_steps_only : (bytes : List ℕ) → frame_fault (held.number == 0) bytes ≡ None
      → faults_after profile profile_limits p.before bytes ≡ first_step (record_steps profile profile_limits p.before (front_record bytes))
  record_steps_only bytes e =
      first_none (frame_steps (is_empty p.before) bytes) (record_steps profile profile_limits p.before (front_record bytes))
      (clean_steps (is_empty p.before) bytes (ap (λ b. frame_fault b bytes) (sym is_first) ∙ e))

  regroup : (piece more : List ℕ) → present (present (held.bytes ++ piece) ++ more) ≡ present (held.bytes ++ (piece ++ more))
  regroup piece more = present-append (held.bytes ++ piece) more ∙ ap present (append_assoc held.bytes piece more)

  back : (piece more : List ℕ) (why : Reason) (at : Place) → IsRefused profile profile_limits (taken ++ (piece ++ more)) why at → IsRefused profile profile_limits ((taken ++ piece) ++ more) why at
  back piece more why at h = subst (λ x. IsRefused profile profile_limits x why at) (sym (append_assoc taken piece more)) h

  -- the remaining fault of framing
  framing_refused : held.ended ≡ false → (piece more : List ℕ) (f : Fault) → standing_fault (held.number == 0) (present (held.bytes ++ piece)) ≡ Some f
      → IsRefused profile profile_limits ((taken ++ piece) ++ more) f.reason (record { number = held.number; start = held.start; within = f.within })
  framing_refused e piece more f s =
      let stays : standing_fault (held.number == 0) (present (held.bytes ++ (piece ++ more))) ≡ Some f
      = ap (standing_fault (held.number == 0)) (sym (regroup piece more)) ∙ standing_stays (held.number == 0) (present (held.bytes ++ piece)) more f (present_twice (held.bytes ++ piece)) s in
      let found = lasting_some (frame_fault (held.number == 0) (present (held.bytes ++ (piece ++ more)))) f stays in
      back piece more _ _ (refused_by e (piece ++ more) f (framing_small (present (held.bytes ++ (piece ++ more))) f found) (frame_refused (present (held.bytes ++ (piece ++ more))) f found))

  by_frame : held.ended ≡ false → (piece more : List ℕ) (o : Option Fault) (why : Reason) (at : Place) → standing_fault (held.number == 0) (present (held.bytes ++ piece)) ≡ o
      → option_map (refused held) o ≡ Some (frame.Refused why at) → IsRefused profile profile_limits ((taken ++ piece) ++ more) why at
  by_frame e piece more None why at s h = absurd cc
  by_frame e piece more (Some f) why at s h =
      let here : Place = record { number = held.number; start = held.start; within = f.within } in
      let named : f.reason ≡ why = cc in
      let there : here ≡ at = cc in
      subst (λ x. IsRefused profile profile_limits ((taken ++ piece) ++ more) why x) there
      (subst (λ x. IsRefused profile profile_limits ((taken ++ piece) ++ more) x here) named (framing_refused e piece more f s))

  pub framing_refuses : held.ended ≡ false → (piece more : List ℕ) (f : Fault) (why : Reason) (at : Place) → standing_fault (held.number == 0) (present (held.bytes ++ piece)) ≡ Some f
      → option_map (refused held) (Some f) ≡ Some (frame.Refused why at) → IsRefused profile profile_limits ((taken ++ piece) ++ more) why at
  framing_refuses e piece more f why at s h = by_frame e piece more (Some f) why at s h

  -- A refusal of the framer remains, whatever follows.
  pub framer_refuses : held.ended ≡ false → (piece more : List ℕ) (why : Reason) (at : Place) → option_map (refused held) (standing_fault (held.number == 0) (next_of held piece)) ≡ Some (frame.Refused why at)
      → IsRefused profile profile_limits ((taken ++ piece) ++ more) why at
  framer_refuses e piece more why at h =
      by_frame e piece more _ why at refl (ap (λ b. option_map (refused held) (standing_fault (held.number == 0) (cond b [] (present (held.bytes ++ piece))))) (sym e) ∙ h)

  -- The same of a record.
  record_refused : held.ended ≡ false → (piece more : List ℕ) (f : Fault) → AreBytes (present (held.bytes ++ piece)) → is_whole (present (held.bytes ++ piece)) ≡ true → frame_fault (held.number == 0) (present (held.bytes ++ piece)) ≡ None
      → raw_fault profile profile_limits kept (front_record (present (held.bytes ++ piece))).kind (front_record (present (held.bytes ++ piece))).body ≡ Some f
      → IsRefused profile profile_limits ((taken ++ piece) ++ more) f.reason (record { number = held.number; start = held.start; within = f.within })
  record_refused e piece more f small whole sound h =
      let now : List ℕ = present (held.bytes ++ piece) in
      let same : present (held.bytes ++ (piece ++ more)) ≡ now = sym (regroup piece more) ∙ whole_present now more whole (present_twice (held.bytes ++ piece)) in
      let here : IsLeast (faults_after profile profile_limits p.before now) f
      = least_some _ f (ap least (record_steps_only now sound) ∙ sym (raw_law profile profile_limits kept p.before p.tells (front_record now)) ∙ h) in
      let P : List ℕ → Type 0 = λ x. IsLeast (faults_after profile profile_limits p.before x) f in
      back piece more _ _ (refused_by e (piece ++ more) f (λ n. body_small (present (held.bytes ++ (piece ++ more))) (subst AreBytes (sym same) small)) (subst P (sym same) here))

  by_record : held.ended ≡ false → (piece more : List ℕ) (o : Option Fault) (why : Reason) (at : Place) → AreBytes (present (held.bytes ++ piece)) → is_whole (present (held.bytes ++ piece)) ≡ true → frame_fault (held.number == 0) (present (held.bytes ++ piece)) ≡ None
      → raw_fault profile profile_limits kept (front_record (present (held.bytes ++ piece))).kind (front_record (present (held.bytes ++ piece))).body ≡ o
      → option_map (refused_at held.number held.start) o ≡ Some (check.Refused why at) → IsRefused profile profile_limits ((taken ++ piece) ++ more) why at
  by_record e piece more None why at small whole sound r h = absurd cc
  by_record e piece more (Some f) why at small whole sound r h =
      let here : Place = record { number = held.number; start = held.start; within = f.within } in
      let named : f.reason ≡ why = cc in
      let there : here ≡ at = cc in
      subst (λ x. IsRefused profile profile_limits ((taken ++ piece) ++ more) why x) there
      (subst (λ x. IsRefused profile profile_limits ((taken ++ piece) ++ more) x here) named (record_refused e piece more f small whole sound r))

  pub record_refuses : held.ended ≡ false → (piece more now : List ℕ) (why : Reason) (at : Place) → AreBytes now → now ≡ present (held.bytes ++ piece) → is_whole now ≡ true → frame_fault (held.number == 0) now ≡ None
      → option_map (refused_at held.number held.start) (raw_fault profile profile_limits kept (front_record now).kind (front_record now).body) ≡ Some (check.Refused why at)
      → IsRefused profile profile_limits ((taken ++ piece) ++ more) why at
  record_refuses e piece more now why at small same whole sound h =
      by_record e piece more _ why at (subst AreBytes same small) (ap is_whole (sym same) ∙ whole) (ap (frame_fault (held.number == 0)) (sym same) ∙ sound) refl
      (ap (λ x. option_map (refused_at held.number held.start) (raw_fault profile profile_limits kept (front_record x).kind (front_record x).body)) (sym same) ∙ h)

  -- The end of the input here.
  nothing_more : (xs : List ℕ) → xs ≡ [] → taken ++ xs ≡ taken
  nothing_more xs e = ap (λ t. taken ++ t) e ∙ append-nil taken

  pub stopped : held.ended ≡ false → (f : Fault) → frame_fault (held.number == 0) held.bytes ≡ Some f → IsRefused profile profile_limits taken f.reason (record { number = held.number; start = held.start; within = f.within })
  stopped e f h =
      let here : present (held.bytes ++ []) ≡ held.bytes = ap present (append-nil held.bytes) ∙ present_part held.bytes p.partial in
      let P : List ℕ → Type 0 = λ x. IsLeast (faults_after profile profile_limits p.before x) f in
      subst (λ x. IsRefused profile profile_limits x f.reason (record { number = held.number; start = held.start; within = f.within })) (append-nil taken)
      (refused_by e [] f (framing_small (present (held.bytes ++ [])) f (ap (frame_fault (held.number == 0)) here ∙ h)) (subst P (sym here) (frame_refused held.bytes f h)))

  clash : true ≡ false → ⊥
  clash e = cc

  -- what is there of a record that is not whole and has no fault that stands ends too early
  part_early : (now : List ℕ) → is_whole now ≡ false → standing_fault (held.number == 0) now ≡ None → (o : Option Fault) → frame_fault (held.number == 0) now ≡ o
      → (f : Fault) × (frame_fault (held.number == 0) now ≡ Some f) × IsTrue (is_end_of_input f.reason)
  part_early now w s None h = absurd (clash (sym (framed_of (held.number == 0) now (clean_steps (held.number == 0) now h)).whole ∙ w))
  part_early now w s (Some f) h = (f, h, lasting_none f (ap lasting (sym h) ∙ s))

  pub part_sound : held.ended ≡ false → (front now : List ℕ) → held.bytes ++ front ≡ now → is_whole now ≡ false → standing_fault (held.number == 0) now ≡ None
      → AreSoundSoFar profile profile_limits (taken ++ front)
  part_sound e front now g w s =
      let x = part_early now w s (frame_fault (held.number == 0) now) refl in
      let same : present (held.bytes ++ front) ≡ now = ap present g ∙ present_part now w in
      let P : List ℕ → Type 0 = λ y. IsLeast (faults_after profile profile_limits p.before y) x.0 in
      let at : Place = record { number = held.number; start = held.start; within = x.0.within } in
      inr (x.0.reason, at, x.2, refused_by e front x.0 (framing_small (present (held.bytes ++ front)) x.0 (ap (frame_fault (held.number == 0)) same ∙ x.1)) (subst P (sym same) (frame_refused now x.0 x.1)))

  -- not at the end, the input ends too early
  pub early : held.ended ≡ false → (o : Option Fault) → frame_fault (held.number == 0) held.bytes ≡ o
      → (f : Fault) × (frame_fault (held.number == 0) held.bytes ≡ Some f) × IsTrue (is_end_of_input f.reason)
  early e o h = part_early held.bytes p.partial p.standing o h

  pub too_early : held.ended ≡ false → (f : Fault) × IsRefused profile profile_limits taken f.reason (record { number = held.number; start = held.start; within = f.within }) × IsTrue (is_end_of_input f.reason)
  too_early e = let x = early e (frame_fault (held.number == 0) held.bytes) refl in (x.0, stopped e x.0 x.1, x.2)

  sound_by : (b : Bool) → held.ended ≡ b → AreSoundSoFar profile profile_limits taken
  sound_by true e = inl (p.before, (p.at_end e).1)
  sound_by false e = subst (AreSoundSoFar profile profile_limits) (append-nil taken) (part_sound e [] held.bytes (append-nil held.bytes) p.partial p.standing)

  pub open_here : length taken < 2 ^ 37 → (s : Seen) → s.profile ≡ profile → s.taken ≡ taken → s.at_hand ≡ held.bytes → s.ended ≡ held.ended → IsOpen s
  open_here low s pr ta ah en = record {
    wants = λ e. subst (λ x. 0 < wanted x) (sym ah) (some_wanted held.bytes p.partial);
    bounded = subst (λ x. length x < 2 ^ 37) (sym ta) low;
    sound = subst (λ x. AreSoundSoFar x profile_limits s.taken) (sym pr) (subst (AreSoundSoFar profile profile_limits) (sym ta) (sound_by held.ended refl));
    ended = λ e. subst (λ x. IsModule x s.taken) (sym pr) (subst (λ x. IsModule profile x) (sym ta) (p.before, (p.at_end (sym en ∙ e)).1));
    running = λ e records a.
        let x = too_early (sym en ∙ e) in
        never_both profile profile_limits taken records x.0.reason _ (subst (λ y. IsAccepted y profile_limits taken records) pr (subst (λ y. IsAccepted s.profile profile_limits y records) ta a)) x.1;
  }

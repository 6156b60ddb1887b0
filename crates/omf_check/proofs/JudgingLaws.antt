-- The verdict without the module, from the check of a session that has kept the same bytes.
use Rattle.std.proofs.Common.{◌≡◌, ◌∙◌, ℕ, zero, suc, ◌+◌, ◌*◌, ◌^◌, ◌<◌, ◌≤◌, ◌⊎◌, Bool, true, false, List, [], ◌∷◌, ◌++◌, Result, Ok, Err, refl, sym, ap, subst, arith, length, take, min, inr, eqb-true}
use Rattle.std.specs.Prelude.{◌==◌, ◌&&◌, ◌||◌, not, Option, Some, None, is_some, cond, IfOk, IfErr}
use Rattle.std.specs.Io.KnownBytes.{Consumes, IsAtEnd, Keeps}
use Rattle.std.proofs.lemmas.List.{length-append, length-take}
use Rattle.omf_frame.specs.Device.{Device, Shows}
use Rattle.omf_frame.specs.Framer.{Held, begins_record}
use Rattle.omf_frame.specs.Framer.{want_of as framer_want, want_with as framer_want_with}
use Rattle.omf_frame.specs.Framing.{record_len}
use Rattle.omf_frame.specs.Inner.Names.{is_nonempty}
use Rattle.omf_check.specs.declared.fault.CheckFault.{CheckFault}
use Rattle.omf_check.specs.declared.fault.CheckFault.TheVariants as check
use Rattle.omf_check.specs.declared.judged.Judged.{Judged}
use Rattle.omf_check.specs.declared.profile.Profile.{Profile}
use Rattle.omf_check.specs.Checking.{Decides, IsCheckFault, IsUndecided, IsReadPatiently}
use Rattle.omf_check.specs.Inner.Kept.{Kept}
use Rattle.omf_check.specs.Inner.Passing.{IsPassing, Moves, Fails, here}
use Rattle.omf_check.specs.Inner.Stopping.{Stops}
use Rattle.omf_check.specs.Inner.Taking.{HasTaken}
use Rattle.omf_check.specs.Judging.{HasRead, Judges}
use Rattle.omf_check.specs.Module.{Module, records_in}
use Rattle.omf_check.specs.Session.{Seen, IsOpen, Takes, FailsAs, Finishes, want_of, want_with}
use Rattle.omf_check.proofs.CheckLaws.{finish_decides, finish_err, ended_of_want, no_want, runs, fewer_left, read_failed, feed_decides, feed_cause, feed_consumes}
use Rattle.omf_check.proofs.Moving.{taken_bound}
use Rattle.omf_check.proofs.Passing.{open_here}
use Rattle.omf_check.proofs.Patience.{feed_patient}
use Rattle.omf_check.proofs.SessionLaws.{feeds, stop_fault, stop_ok, checked_of, framing_not_read, found_fault, wants_ahead}

-- What has been taken, and how often the reader failed meanwhile.
pub record HasJudged (profile : Profile) (old new : Device) (had has : Option (List ℕ)) (held : Held) (kept : Kept) (size : ℕ) : Type 0 where
  pub all : HasTaken profile old.bytes new.bytes had has held kept size
  pub grows : old.failures ≤ new.failures
  pub passed : new.failures ≤ old.failures + 1000 * size
  pub unbroken : new.breaks ≡ old.breaks

-- the answer of a check that kept these bytes
abbrev pub as_module : Profile → List ℕ → Result Judged CheckFault → Result Module CheckFault
as_module profile taken (Ok j) = Ok (record { bytes = taken; profile = profile })
as_module profile taken (Err why) = Err why

causes : (profile : Profile) (taken : List ℕ) (old left : Option (List ℕ)) (n k : ℕ) (r : Result Judged CheckFault) → IfErr (as_module profile taken r) (IsCheckFault profile old left n k) → IfErr r (IsCheckFault profile old left n k)
causes profile taken old left n k (Ok j) h = tt
causes profile taken old left n k (Err why) h = h

patiently : (profile : Profile) (taken : List ℕ) (old new : Device) (r : Result Judged CheckFault) → IsReadPatiently old new (as_module profile taken r) → IsReadPatiently old new r
patiently profile taken old new (Ok j) h = h
patiently profile taken old new (Err check.Memory) h = h
patiently profile taken old new (Err check.Read) h = h
patiently profile taken old new (Err (check.Refused why at)) h = h

-- ---- the verdict, as that of a check of the bytes that were read

pub judged_module : (profile : Profile) (old new : Option (List ℕ)) (j : Judged) (h : HasRead profile old new j) (input : List ℕ) → old ≡ Some input → Decides profile input (Ok (record { bytes = h.bytes; profile = profile }))
judged_module profile None new j h input e = absurd (none e)
  where
    none : {xs : List ℕ} → None ≡ Some xs → ⊥
    none e = cc
judged_module profile (Some xs) None j h input e = absurd h.read
judged_module profile (Some xs) (Some ys) j h input e =
    let same : input ≡ xs = cc in
    (refl, (record { bytes = h.bytes; rest = ys; spelled = same ∙ h.read; well_formed = h.well_formed }, refl))

pub judged_fault : (profile : Profile) (input : List ℕ) (e : CheckFault) → Judges profile input (Err e) → Decides profile input (Err e)
judged_fault profile input check.Memory d = tt
judged_fault profile input check.Read d = tt
judged_fault profile input (check.Refused why at) d = d

pub judged_patiently : (old new : Device) (e : CheckFault) → IsReadPatiently {A = Judged} old new (Err e) → IsReadPatiently {A = Module} old new (Err e)
judged_patiently old new check.Memory h = h
judged_patiently old new check.Read h = h
judged_patiently old new (check.Refused why at) h = h

clash : (b : Bool) → b ≡ true → b ≡ false → ⊥
clash b e h = cc

pub consumes_start : (o : Option (List ℕ)) → Consumes o o []
consumes_start None = tt
consumes_start (Some xs) = refl

none_behind : (size : ℕ) (taken : List ℕ) → size ≡ length taken → size == 0 ≡ true → is_nonempty taken ≡ false
none_behind size taken e h =
    let zero_size : size ≡ 0 = eqb-true size 0 h in
    by taken (omega (arith, e, zero_size))
  where
    by : (xs : List ℕ) → length xs ≡ 0 → is_nonempty xs ≡ false
    by [] z = refl
    by (x ∷ xs) z = absurd (omega (arith, z))

some_behind : (size : ℕ) (taken : List ℕ) → size ≡ length taken → size == 0 ≡ false → 0 < length taken
some_behind zero taken e h = absurd (clash true refl h)
some_behind (suc n) taken e h = omega (arith, e)

module _ (profile : Profile) (held : Held) (taken : List ℕ) (kept : Kept) (p : IsPassing profile held taken kept) where
  -- a session that has kept the bytes
  abbrev s : Seen
  s = here profile held taken

  is_open : IsOpen s
  is_open = open_here profile held taken kept p (taken_bound profile held taken kept p) s refl refl refl refl

  -- what is wanted is what the session wants
  wants_of : framer_want held ≡ want_of s
  wants_of = ap (λ f. framer_want (record held { fault = f })) p.no_fault

  pub wants : (size : ℕ) (ahead : List ℕ) → size ≡ length taken → cond (size == 0) (framer_want held) (framer_want_with held ahead) ≡ want_with s ahead
  wants size ahead e = by (size == 0) refl
    where
      by : (b : Bool) → size == 0 ≡ b → cond b (framer_want held) (framer_want_with held ahead) ≡ want_with s ahead
      by true h = wants_of ∙ ap (λ b. cond (b && (begins_record s.at_hand ahead && not (s.ended || is_some s.fault))) (record_len ahead) (want_of s)) (sym (none_behind size taken e h))
      by false h = wants_ahead profile held taken kept None ahead refl p (some_behind size taken e h)

  pub finishes : (size : ℕ) (r : Result Judged CheckFault) → Stops held size r → Finishes s (as_module profile taken r)
  finishes size (Ok j) st = (refl, stop_ok profile held taken kept p st.0, refl)
  finishes size (Err why) st =
      let x = stop_fault profile held taken kept p st.0 st.1 in
      subst (λ w. Finishes s (Err w)) (sym st.2) (framing_not_read st.0, inr (refl, x.0, x.1))

  -- what holds of a module holds of its numbers
  judges : (size : ℕ) (r : Result Judged CheckFault) (input : List ℕ) → size ≡ length taken → Stops held size r → Decides profile input (as_module profile taken r) → Judges profile input r
  judges size (Ok j) input e st d =
      let c = checked_of profile held taken kept p (stop_ok profile held taken kept p st.0) in
      (records_in taken, d.1.0, st.1 ∙ c.counted, st.2 ∙ e ∙ ap length (sym d.1.1))
  judges size (Err check.Memory) input e st d = tt
  judges size (Err check.Read) input e st d = tt
  judges size (Err (check.Refused why at)) input e st d = d

  -- where the end is at hand, by what is wanted
  module _ (size : ℕ) (e : size ≡ length taken) (ahead : List ℕ) (m w : ℕ) (w_is : w ≡ cond (size == 0) (framer_want held) (framer_want_with held ahead)) (m_is : m ≡ min w 4096) where
    pub wanted_now : w ≡ want_with s ahead
    wanted_now = w_is ∙ wants size ahead e

    pub ended_now : m ≡ 0 → held.ended ≡ true
    ended_now z =
        let i = wanted_now in
        let none : want_with s ahead ≡ 0 = omega (arith, z, m_is, i) in
        ended_of_want profile s is_open refl refl held.ended refl (no_want profile s is_open refl refl ahead none)

    pub running_now : (m ≡ 0 → ⊥) → s.ended ≡ false
    running_now some = runs profile s is_open refl refl ahead m w some m_is wanted_now

  module _ (size : ℕ) (e : size ≡ length taken) (r : Result Judged CheckFault) (st : Stops held size r) where
    pub judges_end : (old left : Option (List ℕ)) → Consumes old left taken → (held.ended ≡ true) ⊎ IsAtEnd left → (input : List ℕ) → old ≡ Some input → Judges profile input r
    judges_end old left c k input h =
        judges size r input e st (finish_decides profile s is_open refl refl (as_module profile taken r) old left (finishes size r st) c k input h)

    pub cause_end : (old left : Option (List ℕ)) (n k : ℕ) → Consumes old left taken → (held.ended ≡ true) ⊎ IsAtEnd left → IfErr r (IsCheckFault profile old left n k)
    cause_end old left n k c z =
        causes profile taken old left n k r (finish_err profile s is_open refl refl (as_module profile taken r) old left n k (finishes size r st) c z)

    pub reads : (old left : Option (List ℕ)) → Consumes old left taken → IfOk r (HasRead profile old left)
    reads old left c = by r st
      where
        by : (x : Result Judged CheckFault) → Stops held size x → IfOk x (HasRead profile old left)
        by (Ok j) f =
            let k = checked_of profile held taken kept p (stop_ok profile held taken kept p f.0) in
            record { bytes = taken; read = c; well_formed = k.well_formed; record_count = f.1 ∙ k.counted; size = f.2 ∙ e }
        by (Err why) f = tt

  -- the reader failed
  pub undecided : (old mid new : Option (List ℕ)) → Consumes old mid taken → Keeps mid new → IsUndecided profile old new
  undecided old mid new c k = read_failed profile s is_open refl refl old mid new c k

  -- a step that fails
  module _ (piece : List ℕ) (why : CheckFault) (f : Fails profile held taken piece why) (not_ended : held.ended ≡ false) where
    abbrev fails_as : FailsAs s piece why (record s { at_hand = []; fault = Some why })
    fails_as = record {
      not_read = found_fault s piece why f;
      not_ended = not_ended;
      new_is = refl;
      cause = inr (refl, f);
    }

    abbrev failed : Seen
    failed = record s { at_hand = []; fault = Some why }

    as_judged : (input : List ℕ) (w : CheckFault) → Decides profile input (Err w) → Judges profile input (Err w)
    as_judged input check.Memory d = tt
    as_judged input check.Read d = tt
    as_judged input (check.Refused reason at) d = d

    pub step_judges : (old between left : Option (List ℕ)) → Consumes old between taken → Consumes between left piece → (input : List ℕ) → old ≡ Some input → Judges profile input (Err why)
    step_judges old between left c k input h = as_judged input why (feed_decides profile s is_open refl refl why piece failed old between left fails_as c k input h)

    pub step_cause : (ahead : List ℕ) (old between left : Option (List ℕ)) (n m : ℕ) → Shows between ahead → length piece ≤ want_with s ahead → Consumes old between taken → Consumes between left piece
        → IsCheckFault profile old left n m why
    step_cause ahead old between left n m shows low c k = feed_cause profile s is_open refl refl why piece ahead failed old between left n m shows low fails_as c k

    pub step_patient : (old new : Device) → new.breaks ≡ old.breaks → IsReadPatiently {A = Judged} old new (Err why)
    step_patient old new same = patiently profile taken old new (Err why) (feed_patient s refl old new same piece why failed fails_as)

  -- a step that succeeds
  module _ (piece : List ℕ) (count : ℕ) (whole : Bool) (new : Held) (after : Kept) (m : Moves held taken piece count whole new (taken ++ take count piece)) (q : IsPassing profile new (taken ++ take count piece) after) where
    abbrev takes : Takes s piece count whole (here profile new (taken ++ take count piece))
    takes = feeds profile held new taken (taken ++ take count piece) piece kept after count whole None refl p m q

    pub step_size : length (taken ++ take count piece) ≡ length taken + count
    step_size =
        let a = length-append taken (take count piece) in
        let b = length-take count piece in
        let d = m.bound in
        omega (arith, a, b, d)

    pub step_low : length taken + count < 2 ^ 37
    step_low = let a = step_size in let b = taken_bound profile new (taken ++ take count piece) after q in omega (arith, a, b)

    pub step_more : s.ended ≡ false → 0 < length piece → 0 < count
    step_more running some =
        let a = fewer_left profile s is_open refl refl piece count whole (here profile new (taken ++ take count piece)) running some takes in
        let b = step_size in
        omega (arith, a, b)

    pub step_consumes : (ahead : List ℕ) (old between left : Option (List ℕ)) → s.ended ≡ false → Shows between ahead → length piece ≤ want_with s ahead → Consumes old between taken → Consumes between left piece
        → Consumes old left (taken ++ take count piece)
    step_consumes ahead old between left running shows low c k =
        feed_consumes profile s is_open refl refl piece ahead count whole (here profile new (taken ++ take count piece)) old between left running shows low takes c k

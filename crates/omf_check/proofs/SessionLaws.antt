-- The results of a session's calls.
use Rattle.std.proofs.Common.{◌≡◌, ◌≢◌, ℕ, zero, suc, ◌+◌, ◌<◌, ◌≤◌, Bool, true, false, List, [], ◌∷◌, ◌++◌, Result, Ok, Err, refl, sym, ◌∙◌, ap, subst, arith, length, take, min, length-append}
use Rattle.std.specs.Prelude.{All, flat_map, ◌==◌, not, ◌&&◌, ◌||◌, Option, Some, None, is_some, cond}
use Rattle.omf_frame.specs.Fault.{Fault}
use Rattle.omf_frame.specs.Framing.{Raw, raw_bytes, IsRecord, IsFramed, wanted, frame_fault, front_record, after_front, record_len}
use Rattle.omf_frame.specs.Inner.Names.{is_nonempty}
use Rattle.omf_frame.specs.Framer.{Held, at_start, begins_record, stop_of, refused}
use Rattle.omf_frame.specs.Framer.{want_of as framer_want, want_with as framer_want_with}
use Rattle.omf_frame.specs.declared.fault.FrameFault.{FrameFault}
use Rattle.omf_frame.specs.declared.fault.FrameFault.TheVariants as frame
use Rattle.omf_frame.proofs.FramingLaws.{present_raw, front_raw, after_raw}
use Rattle.omf_image.specs.Limits.{profile_limits}
use Rattle.omf_check.specs.declared.fault.CheckFault.{CheckFault}
use Rattle.omf_check.specs.declared.fault.CheckFault.TheVariants as check
use Rattle.omf_check.specs.declared.profile.Profile.{Profile}
use Rattle.omf_check.specs.Inner.Kept.{Kept, Tells, nothing_kept}
use Rattle.omf_check.specs.Module.{records_from, records_in}
use Rattle.omf_check.specs.Inner.Parts.{IsChecked}
use Rattle.omf_check.specs.Inner.Points.{PointsTo}
use Rattle.omf_check.specs.WellFormed.{IsWellFormed, recs}
use Rattle.omf_check.specs.Session.{Seen, IsOpen, Takes, IsCause, IsEndFault, want_with}
use Rattle.omf_check.specs.Inner.Passing.{IsPassing, IsState, Moves, framing_fault}
use Rattle.omf_check.proofs.Moving.{taken_bound, started}
use Rattle.omf_check.proofs.Passing.{open_here, stopped, early}

-- the view of a session
abbrev pub seen : Profile → Held → List ℕ → Option CheckFault → Seen
seen profile held taken fault = record { profile = profile; taken = taken; at_hand = cond (is_some fault) [] held.bytes; ended = held.ended; fault = fault }

feeds_open : (profile : Profile) (held new : Held) (taken now piece : List ℕ) (kept after : Kept) (count : ℕ) (whole : Bool) → IsPassing profile held taken kept
    → Moves held taken piece count whole new now → IsPassing profile new now after → Takes (seen profile held taken None) piece count whole (seen profile new now None)
feeds_open profile held new taken now piece kept after count whole p m q = record {
  no_fault = refl;
  bound = m.bound;
  all_wanted = subst (λ f. min (framer_want (record held { fault = f })) (length piece) ≤ count) p.no_fault m.all_wanted;
  grown = m.grown;
  taken = m.taken;
  at_hand = m.at_hand;
  whole_is = m.whole_is;
  profile = refl;
  fault = refl;
  is_open = open_here profile new now after q (taken_bound profile new now after q) (seen profile new now None) refl refl refl refl;
}

pub feeds : (profile : Profile) (held new : Held) (taken now piece : List ℕ) (kept after : Kept) (count : ℕ) (whole : Bool) (fault : Option CheckFault) → fault ≡ None
    → IsState profile held taken kept fault → Moves held taken piece count whole new now → IsPassing profile new now after
    → Takes (seen profile held taken fault) piece count whole (seen profile new now fault)
feeds profile held new taken now piece kept after count whole fault e s m q =
    subst (λ f. Takes (seen profile held taken f) piece count whole (seen profile new now f)) (sym e)
    (feeds_open profile held new taken now piece kept after count whole (subst (IsState profile held taken kept) e s) m q)

pub feeds_kept : (profile : Profile) (held new : Held) (taken now piece : List ℕ) (kept after : Kept) (count : ℕ) (whole : Bool) (fault : Option CheckFault) → fault ≡ None → IsState profile held taken kept fault
    → now ≡ taken ++ take count piece → Moves held taken piece count whole new (taken ++ take count piece) → IsPassing profile new (taken ++ take count piece) after
    → Takes (seen profile held taken fault) piece count whole (seen profile new now fault)
feeds_kept profile held new taken now piece kept after count whole fault e s same m q =
    subst (λ x. Takes (seen profile held taken fault) piece count whole (seen profile new x fault)) (sym same) (feeds profile held new taken (taken ++ take count piece) piece kept after count whole fault e s m q)

-- Its want for the next bytes.
pub nonzero : (n : ℕ) → n == 0 ≡ false → 0 < n
nonzero zero e = cc
nonzero (suc n) e = omega arith

pub none_of : (o : Option CheckFault) → is_some o ≡ false → o ≡ None
none_of None e = refl
none_of (Some f) e = cc

some_taken : (taken : List ℕ) → 0 < length taken → true ≡ is_nonempty taken
some_taken [] h = absurd (omega (arith, h))
some_taken (b ∷ taken) h = refl

pub wants_ahead : (profile : Profile) (held : Held) (taken : List ℕ) (kept : Kept) (fault : Option CheckFault) (ahead : List ℕ) → fault ≡ None → IsState profile held taken kept fault → 0 < length taken
    → framer_want_with held ahead ≡ want_with (seen profile held taken fault) ahead
wants_ahead profile held taken kept fault ahead e state some =
    let p : IsPassing profile held taken kept = subst (IsState profile held taken kept) e state in
    ap (λ f. framer_want_with (record held { fault = f }) ahead) p.no_fault
    ∙ ap (λ b. cond (b && (begins_record held.bytes ahead && not (held.ended || false))) (record_len ahead) (cond (held.ended || false) 0 (wanted held.bytes))) (some_taken taken some)
    ∙ ap (λ f. want_with (seen profile held taken f) ahead) (sym e)

-- The end of the input.
stop_ended : (held : Held) → held.fault ≡ None → held.ended ≡ true → stop_of held ≡ Ok tt
stop_ended held n e = ap (λ o. stop_of (record held { fault = o })) n ∙ ap (λ b. stop_of (record held { fault = None; ended = b })) e

module _ (profile : Profile) (held : Held) (taken : List ℕ) (kept : Kept) (p : IsPassing profile held taken kept) where
  stop_early : (f : Fault) → frame_fault (held.number == 0) held.bytes ≡ Some f → held.ended ≡ false → stop_of held ≡ Err (refused held f)
  stop_early f h e =
      ap (λ o. stop_of (record held { fault = o })) p.no_fault ∙ ap (λ b. stop_of (record held { fault = None; ended = b })) e ∙ rw h refl

  ok_err : (f : FrameFault) → ◌≡◌ {A = Result (Unit {0}) FrameFault} (Ok tt) (Err f) → ⊥
  ok_err f e = cc

  err_same : (f g : FrameFault) → ◌≡◌ {A = Result (Unit {0}) FrameFault} (Err f) (Err g) → f ≡ g
  err_same f g e = cc

  by_end : (b : Bool) → held.ended ≡ b → (fault : FrameFault) → stop_of held ≡ Err fault
      → (held.ended ≡ false) × IsEndFault (seen profile held taken None) (framing_fault fault)
  by_end true e fault s = absurd (ok_err fault (sym (stop_ended held p.no_fault e) ∙ s))
  by_end false e fault s =
      let x = early profile held taken kept p e (frame_fault (held.number == 0) held.bytes) refl in
      let same : refused held x.0 ≡ fault = err_same (refused held x.0) fault (sym (stop_early x.0 x.1 e) ∙ s) in
      (e, subst (λ g. IsEndFault (seen profile held taken None) (framing_fault g)) same (stopped profile held taken kept p e x.0 x.1))

  pub stop_fault : (fault : FrameFault) → stop_of held ≡ Err fault → (held.ended ≡ false) × IsEndFault (seen profile held taken None) (framing_fault fault)
  stop_fault fault s = by_end held.ended refl fault s

  by_ok : (b : Bool) → held.ended ≡ b → stop_of held ≡ Ok tt → held.ended ≡ true
  by_ok true e s = e
  by_ok false e s =
      let x = early profile held taken kept p e (frame_fault (held.number == 0) held.bytes) refl in
      absurd (ok_err (refused held x.0) (sym s ∙ stop_early x.0 x.1 e))

  pub stop_ok : stop_of held ≡ Ok tt → held.ended ≡ true
  stop_ok s = by_ok held.ended refl s

-- Records are read back from their bytes.
first_of : (P : Raw → Type 0) (r : Raw) (rs : List Raw) → All P (r ∷ rs) → P r
first_of P r rs h = h 0 r (omega arith)

rest_of : (P : Raw → Type 0) (r : Raw) (rs : List Raw) → All P (r ∷ rs) → All P rs
rest_of P r rs h k d low = let more : suc k < length (r ∷ rs) = omega arith in h (suc k) d more

pub split_all : (n : ℕ) (rs : List Raw) → All IsRecord rs → length (flat_map raw_bytes rs) ≤ n → records_from n (flat_map raw_bytes rs) ≡ rs
split_all zero [] h low = refl
split_all (suc n) [] h low = refl
split_all zero (r ∷ rs) h low =
    let e : length (raw_bytes r ++ flat_map raw_bytes rs) ≡ length (raw_bytes r) + length (flat_map raw_bytes rs) = length-append (raw_bytes r) (flat_map raw_bytes rs) in
    absurd (none (length (raw_bytes r ++ flat_map raw_bytes rs)) (length (r.body ++ r.checksum ∷ [])) (length (flat_map raw_bytes rs)) e low)
  where
    none : (whole a b : ℕ) → whole ≡ suc (suc (suc a)) + b → whole ≤ 0 → ⊥
    none whole a b e h = omega (arith, e, h)
split_all (suc n) (r ∷ rs) h low =
    let small = (first_of IsRecord r rs h).0 in
    let rest : List ℕ = flat_map raw_bytes rs in
    let e : length (raw_bytes r ++ rest) ≡ length (raw_bytes r) + length rest = length-append (raw_bytes r) rest in
    let fewer : length rest ≤ n = less (length (raw_bytes r ++ rest)) (length (r.body ++ r.checksum ∷ [])) (length rest) n e low in
    ap (λ x. front_record x ∷ records_from n (after_front (raw_bytes r ++ rest))) (present_raw r small rest)
    ∙ ap (λ x. x ∷ records_from n (after_front (raw_bytes r ++ rest))) (front_raw r small)
    ∙ ap (λ x. r ∷ records_from n x) (after_raw r small rest) ∙ ap (λ x. r ∷ x) (split_all n rs (rest_of IsRecord r rs h) fewer)
  where
    less : (whole a b n : ℕ) → whole ≡ suc (suc (suc a)) + b → whole ≤ suc n → b ≤ n
    less whole a b n e h = omega (arith, e, h)

pub records_of : (bytes : List ℕ) (rs : List Raw) → IsFramed bytes rs → records_in bytes ≡ rs
records_of bytes rs f =
    ap records_in f.spelled ∙ split_all (length (flat_map raw_bytes rs)) rs f.each (omega arith)

pub checked_of : (profile : Profile) (held : Held) (taken : List ℕ) (kept : Kept) → IsPassing profile held taken kept → held.ended ≡ true → IsChecked profile taken kept held.number
checked_of profile held taken kept p e =
    let w : IsWellFormed profile profile_limits taken p.before = (p.at_end e).1 in
    let same : records_in taken ≡ p.before = records_of taken p.before w.framed in
    record {
      well_formed = subst (λ x. IsWellFormed profile profile_limits taken x) (sym same) w;
      tells = subst (λ x. Tells kept (recs x)) (sym same) p.tells;
      points = subst (λ x. PointsTo taken kept (recs x)) (sym same) (subst (λ x. PointsTo x kept (recs p.before)) (sym w.framed.spelled) p.points);
      bounded = p.bounded;
      counted = p.number ∙ ap length (sym same);
    }

-- by the state
pub state_of : (profile : Profile) (held : Held) (taken : List ℕ) (kept : Kept) (fault : Option CheckFault) → fault ≡ None → IsState profile held taken kept fault → IsPassing profile held taken kept
state_of profile held taken kept fault e s = subst (IsState profile held taken kept) e s

-- no fault of a session is Read
pub found_fault : (s : Seen) (piece : List ℕ) (why : CheckFault) → IsCause s piece why → why ≢ check.Read
found_fault s piece check.Memory h = λ e. cc
found_fault s piece check.Read h = absurd h
found_fault s piece (check.Refused reason at) h = λ e. cc

pub framing_not_read : (f : FrameFault) → framing_fault f ≢ check.Read
framing_not_read frame.Memory = λ e. cc
framing_not_read (frame.Refused why at) = λ e. cc

pub open_of : (profile : Profile) (held : Held) (taken : List ℕ) (kept : Kept) (fault : Option CheckFault) → IsState profile held taken kept fault → fault ≡ None → IsOpen (seen profile held taken fault)
open_of profile held taken kept fault s e =
    let p = state_of profile held taken kept fault e s in
    subst (λ f. IsOpen (seen profile held taken f)) (sym e) (open_here profile held taken kept p (taken_bound profile held taken kept p) (seen profile held taken None) refl refl refl refl)

-- A new session.
pub open_start : (profile : Profile) → IsOpen (seen profile at_start [] None)
open_start profile =
    let p = started profile in
    open_here profile at_start [] nothing_kept p (taken_bound profile at_start [] nothing_kept p) (seen profile at_start [] None) refl refl refl refl

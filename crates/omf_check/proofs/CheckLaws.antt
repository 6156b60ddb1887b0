-- The results of a check, from those of a session that has the same bytes.
use Rattle.std.proofs.Common.{◌≡◌, ℕ, zero, suc, ◌+◌, ◌-◌, ◌*◌, ◌^◌, ◌<◌, ◌≤◌, ◌⊎◌, Bool, true, false, List, [], ◌∷◌, ◌++◌, Result, Ok, Err, refl, sym, ◌∙◌, ap, subst, arith, append_assoc, length, take, drop, min, inl, inr}
use Rattle.std.specs.Prelude.{Option, Some, None, is_some, not, ◌&&◌, ◌||◌, cond, IfErr, IsTrue, slice_index}
use Rattle.std.specs.Io.{StartsWith}
use Rattle.std.specs.Io.KnownBytes.{Consumes, IsAtEnd, Keeps}
use Rattle.std.proofs.KnownBytes.{Consumes-kept, starts_with_rest}
use Rattle.std.proofs.lemmas.List.{append-nil, length-append, length-take, take_all, take-append-drop}
use Rattle.omf_frame.specs.Device.{Shows}
use Rattle.omf_frame.specs.Framer.{Held, begins_record}
use Rattle.omf_frame.specs.Framing.{is_taken, present, wanted, stated_length, record_len}
use Rattle.omf_frame.specs.Inner.Names.{is_nonempty}
use Rattle.omf_frame.specs.declared.fault.Place.{Place}
use Rattle.omf_frame.specs.declared.fault.Reason.{Reason}
use Rattle.omf_frame.specs.declared.fault.Reason.TheVariants as reason
use Rattle.omf_frame.proofs.FaultLaws.{untrue}
use Rattle.omf_image.specs.Limits.{profile_limits}
use Rattle.omf_check.specs.Inner.Names.{may_go_on}
use Rattle.omf_check.specs.declared.fault.CheckFault.{CheckFault}
use Rattle.omf_check.specs.declared.fault.CheckFault.TheVariants as check
use Rattle.omf_check.specs.declared.profile.Profile.{Profile}
use Rattle.omf_check.specs.Checking.{Decides, IsCheckFault, IsUndecided}
use Rattle.omf_check.specs.Inner.Kept.{Kept}
use Rattle.omf_check.specs.Inner.Passing.{IsPassing, here}
use Rattle.omf_check.specs.Inner.Taking.{HasTaken}
use Rattle.omf_check.specs.Module.{Module, records_in}
use Rattle.omf_check.specs.Refusal.{IsRefused, EndsWhereJudged, AreSoundSoFar}
use Rattle.omf_check.specs.Session.{Seen, IsOpen, Takes, FailsAs, IsCause, Finishes, IsEndFault, RefusesHere, next_bytes, want_of, want_with}
use Rattle.omf_check.specs.WellFormed.{IsAccepted, IsWellFormed}
use Rattle.omf_check.proofs.Moving.{taken_bound}
use Rattle.omf_check.proofs.Passing.{open_here}
use Rattle.omf_check.proofs.SessionLaws.{records_of}
use Rattle.omf_check.proofs.SoundBytes.{no_other}

pub piece_low : (new buffer : List ℕ) (n m w k : ℕ) → length new ≡ length (take m buffer) → m ≡ min w 4096 → w ≡ k → length (take n new) ≤ k
piece_low new buffer n m w k a e f = let x = length-take n new in let y = length-take m buffer in omega (arith, a, e, f, x, y)

pub some_given : (n : ℕ) (bytes : List ℕ) → (n ≡ 0 → ⊥) → n ≤ length bytes → 0 < length (take n bytes)
some_given zero bytes h few = absurd (h refl)
some_given (suc n) bytes h few = let e = length-take (suc n) bytes in omega (arith, e, few)

-- The bytes consumed of known bytes.
pub consumes_more : (old between new : Option (List ℕ)) (xs ys : List ℕ) → Consumes old between xs → Consumes between new ys → Consumes old new (xs ++ ys)
consumes_more None between new xs ys h k = tt
consumes_more (Some a) None new xs ys h k = absurd h
consumes_more (Some a) (Some b) None xs ys h k = absurd k
consumes_more (Some a) (Some b) (Some c) xs ys h k = h ∙ ap (λ t. xs ++ t) k ∙ sym (append_assoc xs ys c)

pub consumes_none : (old between new : Option (List ℕ)) (xs ys : List ℕ) (n : ℕ) → n ≡ 0 → Consumes old between xs → Consumes between new (take n ys) → Consumes old new xs
consumes_none old between new xs ys n z h k =
    subst (λ t. Consumes old new t) (append-nil xs) (consumes_more old between new xs [] h (subst (λ t. Consumes between new t) (ap (λ m. take m ys) z) k))

spelled_by : (input read : List ℕ) (left : Option (List ℕ)) → Consumes (Some input) left read → (rest : List ℕ) × (input ≡ read ++ rest)
spelled_by input read None h = absurd h
spelled_by input read (Some rest) h = (rest, h)

spelled_of : (old left : Option (List ℕ)) (input read : List ℕ) → old ≡ Some input → Consumes old left read → (rest : List ℕ) × (input ≡ read ++ rest)
spelled_of old left input read e h = spelled_by input read left (subst (λ o. Consumes o left read) e h)

all_by : (input read : List ℕ) (left : Option (List ℕ)) → Consumes (Some input) left read → IsAtEnd left → input ≡ read
all_by input read None h k = absurd h
all_by input read (Some rest) h k = h ∙ ap (λ t. read ++ t) k ∙ append-nil read

all_of : (old left : Option (List ℕ)) (input read : List ℕ) → old ≡ Some input → Consumes old left read → IsAtEnd left → input ≡ read
all_of old left input read e h k = all_by input read left (subst (λ o. Consumes o left read) e h) k

none_some : (o : Option CheckFault) (f : CheckFault) → o ≡ None → o ≡ Some f → ⊥
none_some o f e h = cc

clash : (b : Bool) → b ≡ true → b ≡ false → ⊥
clash b e h = cc

-- A refusal that remains is not that the input ends too early.
not_early : (why : Reason) (part : List ℕ) → EndsWhereJudged why part → IsTrue (may_go_on why) → ⊥
not_early reason.NoEnd part h t = h
not_early reason.Cut part h t = h
not_early _ part h t = absurd (untrue t)

-- No more than the wanted bytes belong to the current record.
present_wanted : (hand piece : List ℕ) → 0 < wanted hand → length piece ≤ wanted hand → present (hand ++ piece) ≡ hand ++ piece
present_wanted [] [] some few = refl
present_wanted [] (t ∷ []) some few = refl
present_wanted [] (t ∷ lo ∷ piece) some few = absurd (omega (arith, few))
present_wanted (t ∷ []) [] some few = refl
present_wanted (t ∷ []) (lo ∷ []) some few = refl
present_wanted (t ∷ []) (lo ∷ hi ∷ []) some few = ap (λ (r : List ℕ). t ∷ lo ∷ hi ∷ r) (take_all (lo + 256 * hi) [] (omega arith))
present_wanted (t ∷ []) (lo ∷ hi ∷ b ∷ piece) some few = absurd (omega (arith, few))
present_wanted (t ∷ lo ∷ []) [] some few = refl
present_wanted (t ∷ lo ∷ []) (hi ∷ []) some few = ap (λ (r : List ℕ). t ∷ lo ∷ hi ∷ r) (take_all (lo + 256 * hi) [] (omega arith))
present_wanted (t ∷ lo ∷ []) (hi ∷ b ∷ piece) some few = absurd (omega (arith, few))
present_wanted (t ∷ lo ∷ hi ∷ hand) piece some few =
    ap (λ (r : List ℕ). t ∷ lo ∷ hi ∷ r) (take_all (lo + 256 * hi) (hand ++ piece) (let e = length-append hand piece in omega (arith, e, some, few)))

one_wanted : (hand front : List ℕ) (n : ℕ) → 0 < length front → n ≤ wanted hand → length (hand ++ front) ≡ 1 → n ≤ length front
one_wanted [] front n some few h = omega (arith, some, few)
one_wanted (t ∷ hand) front n some few h = let e = length-append hand front in absurd (omega (arith, some, h, e))

three_wanted : (hand front : List ℕ) (n : ℕ) → 0 < length front → length front ≤ n → n ≤ wanted hand → length (hand ++ front) ≡ 3 → n ≤ length front
three_wanted [] front n some most few h = absurd (omega (arith, most, few, h))
three_wanted (t ∷ []) front n some most few h = omega (arith, few, h)
three_wanted (t ∷ lo ∷ []) front n some most few h = omega (arith, few, h)
three_wanted (t ∷ lo ∷ hi ∷ hand) front n some most few h = let e = length-append hand front in absurd (omega (arith, some, h, e))

all_wanted : (hand front : List ℕ) (n : ℕ) → 0 < length front → length front ≤ n → n ≤ wanted hand → length (hand ++ front) ≡ 3 + stated_length (hand ++ front) → n ≤ length front
all_wanted [] front n some most few h = absurd (omega (arith, most, few, h))
all_wanted (t ∷ []) front n some most few h = omega (arith, few, h)
all_wanted (t ∷ lo ∷ []) front n some most few h = omega (arith, few, some)
all_wanted (t ∷ lo ∷ hi ∷ hand) front n some most few h = let e = length-append hand front in omega (arith, some, few, h, e)

-- The check of a record ends with the last of the wanted bytes.
judged_at_wanted : (why : Reason) (hand front : List ℕ) (n : ℕ) → 0 < length front → length front ≤ n → n ≤ wanted hand → EndsWhereJudged why (hand ++ front) → n ≤ length front
judged_at_wanted reason.NoEnd hand front n some most few h = absurd h
judged_at_wanted reason.Cut hand front n some most few h = absurd h
judged_at_wanted reason.UnknownType hand front n some most few h = one_wanted hand front n some few h
judged_at_wanted reason.UnsupportedType hand front n some most few h = one_wanted hand front n some few h
judged_at_wanted reason.EmptyRecord hand front n some most few h = three_wanted hand front n some most few h
judged_at_wanted _ hand front n some most few h = all_wanted hand front n some most few h

whole_take : (n : ℕ) (xs : List ℕ) → length xs ≤ length (take n xs) → take n xs ≡ xs
whole_take n xs h = let e = length-take n xs in take_all n xs (omega (arith, e, h))

-- The bytes shown of those that a reader has left.
no_hand : (hand ahead : List ℕ) → begins_record hand ahead ≡ true → hand ≡ []
no_hand [] ahead h = refl
no_hand (b ∷ hand) [] h = absurd (clash false h refl)
no_hand (b ∷ hand) (t ∷ ahead) h = absurd (clash false h refl)

nonempty_taken : (taken : List ℕ) → taken ≡ [] → is_nonempty taken ≡ true → ⊥
nonempty_taken taken e h = clash (is_nonempty taken) h (ap is_nonempty e)

good_first : (ahead zs ys : List ℕ) (b : ℕ) (bytes : List ℕ) → begins_record [] ahead ≡ true → ahead ++ zs ≡ b ∷ bytes ++ ys → IsTrue (is_taken b)
good_first [] zs ys b bytes h e = absurd (clash false h refl)
good_first (t ∷ ahead) zs ys b bytes h e = let same : t ≡ b = cc in subst (λ x. IsTrue (is_taken x)) same h

three : (ahead : List ℕ) → 3 ≤ record_len ahead
three [] = omega arith
three (t ∷ []) = omega arith
three (t ∷ lo ∷ []) = omega arith
three (t ∷ lo ∷ hi ∷ ahead) = omega arith

-- of the record that begins with what was shown there is no more than it has
fits_ahead : (ahead zs piece ys : List ℕ) → ahead ++ zs ≡ piece ++ ys → length piece ≤ record_len ahead → present piece ≡ piece
fits_ahead ahead zs [] ys e few = refl
fits_ahead ahead zs (t ∷ []) ys e few = refl
fits_ahead ahead zs (t ∷ lo ∷ []) ys e few = refl
fits_ahead [] zs (t ∷ lo ∷ hi ∷ piece) ys e few = ap (λ (r : List ℕ). t ∷ lo ∷ hi ∷ r) (take_all (lo + 256 * hi) piece (omega (arith, few)))
fits_ahead (a ∷ []) zs (t ∷ lo ∷ hi ∷ piece) ys e few = ap (λ (r : List ℕ). t ∷ lo ∷ hi ∷ r) (take_all (lo + 256 * hi) piece (omega (arith, few)))
fits_ahead (a ∷ b ∷ []) zs (t ∷ lo ∷ hi ∷ piece) ys e few = ap (λ (r : List ℕ). t ∷ lo ∷ hi ∷ r) (take_all (lo + 256 * hi) piece (omega (arith, few)))
fits_ahead (a ∷ b ∷ c ∷ ahead) zs (t ∷ lo ∷ hi ∷ piece) ys e few =
    let low : b ≡ lo = cc in
    let high : c ≡ hi = cc in
    ap (λ (r : List ℕ). t ∷ lo ∷ hi ∷ r) (take_all (lo + 256 * hi) piece (omega (arith, few, low, high)))

both_true : (x y : Bool) → x && y ≡ true → (x ≡ true) × (y ≡ true)
both_true true y h = (refl, h)
both_true false y h = absurd (clash false h refl)

never : (x y : Bool) → x && (y && false) ≡ false
never true true = refl
never true false = refl
never false y = refl

-- A piece is of one record, what is refused with it needs all of it, and the first byte of all comes alone.
pub record IsOfRecord (s : Seen) (piece : List ℕ) : Type 0 where
  pub fits : present (s.at_hand ++ piece) ≡ s.at_hand ++ piece
  pub needed : (why : Reason) (at : Place) (f : RefusesHere s piece why at) → take f.count piece ≡ piece
  pub first : s.taken ≡ [] → s.at_hand ≡ [] → length piece ≤ 1

module _ (profile : Profile) (s : Seen) (open_s : IsOpen s) (fault : s.fault ≡ None) (same : s.profile ≡ profile) where
  -- a kept fault, or that the input ends here
  abbrev EndsBy : CheckFault → Type 0
  EndsBy why = (s.fault ≡ Some why) ⊎ ((s.fault ≡ None) × (s.ended ≡ false) × IsEndFault s why)

  -- the module that the bytes taken are
  accepted : (m : Module) (input rest : List ℕ) → s.ended ≡ true → m ≡ record { bytes = s.taken; profile = s.profile } → input ≡ s.taken ++ rest → Decides profile input (Ok m)
  accepted m input rest e h sp =
      let w = open_s.ended e in
      let r : records_in s.taken ≡ w.0 = records_of s.taken w.0 w.1.framed in
      let wf : IsWellFormed profile profile_limits s.taken (records_in s.taken)
      = subst (λ p. IsWellFormed p profile_limits s.taken (records_in s.taken)) same (subst (λ x. IsWellFormed s.profile profile_limits s.taken x) (sym r) w.1) in
      let m0 : Module = record { bytes = s.taken; profile = s.profile } in
      let a : IsAccepted profile profile_limits input (records_in s.taken) = record { bytes = s.taken; rest = rest; spelled = sp; well_formed = wf } in
      let done : Decides profile input (Ok m0) = (same, (a, refl)) in
      subst (λ x. Decides profile input (Ok x)) (sym h) done

  pub ended_of_want : (b : Bool) → s.ended ≡ b → want_of s ≡ 0 → s.ended ≡ true
  ended_of_want true e w = e
  ended_of_want false e w =
      let more : 0 < wanted s.at_hand = open_s.wants e in
      let none : wanted s.at_hand ≡ 0 = ap (λ b. cond (b || false) 0 (wanted s.at_hand)) (sym e) ∙ ap (λ (f : Option CheckFault). cond (s.ended || is_some f) 0 (wanted s.at_hand)) (sym fault) ∙ w in
      absurd (no (wanted s.at_hand) more none)
    where
      no : (n : ℕ) → 0 < n → n ≡ 0 → ⊥
      no n h e = omega (arith, h, e)

  -- at the end of the input
  refused_at_end : (why : CheckFault) (old left : Option (List ℕ)) → IsEndFault s why → Consumes old left s.taken → IsAtEnd left → (input : List ℕ) → old ≡ Some input → Decides profile input (Err why)
  refused_at_end check.Memory old left f c k input e = tt
  refused_at_end check.Read old left f c k input e = tt
  refused_at_end (check.Refused why at) old left f c k input e =
      subst (λ x. IsRefused profile profile_limits x why at) (sym (all_of old left input s.taken e c k)) (subst (λ p. IsRefused p profile_limits s.taken why at) same f)

  -- at the end of the module, or of the input
  pub finish_decides : (result : Result Module CheckFault) (old left : Option (List ℕ)) → Finishes s result → Consumes old left s.taken → (s.ended ≡ true) ⊎ IsAtEnd left
      → (input : List ℕ) → old ≡ Some input → Decides profile input result
  finish_decides (Ok m) old left f c k input e = let sp = spelled_of old left input s.taken e c in accepted m input sp.0 f.1 f.2 sp.1
  finish_decides (Err why) old left f c k input e = by why f.1 k
    where
      by : (why : CheckFault) → EndsBy why → (s.ended ≡ true) ⊎ IsAtEnd left → Decides profile input (Err why)
      by why (inl h) z = absurd (none_some s.fault why fault h)
      by why (inr h) (inl over) = absurd (clash s.ended over h.1)
      by why (inr h) (inr z) = refused_at_end why old left h.2 c z input e

  fault_at_end : (why : CheckFault) (old left : Option (List ℕ)) (n k : ℕ) → IsEndFault s why → Consumes old left s.taken → IsAtEnd left → IsCheckFault profile old left n k why
  fault_at_end check.Memory old left n k f c z = absurd f
  fault_at_end check.Read old left n k f c z = absurd f
  fault_at_end (check.Refused why at) old left n k f c z = (s.taken, c, (subst (λ p. IsRefused p profile_limits s.taken why at) same f, inl (no_other s.profile profile_limits s.taken open_s.sound why at f, z)))

  finish_cause : (why : CheckFault) (old left : Option (List ℕ)) (n k : ℕ) → EndsBy why → Consumes old left s.taken → (s.ended ≡ true) ⊎ IsAtEnd left → IsCheckFault profile old left n k why
  finish_cause why old left n k (inl h) c z = absurd (none_some s.fault why fault h)
  finish_cause why old left n k (inr h) c (inl over) = absurd (clash s.ended over h.1)
  finish_cause why old left n k (inr h) c (inr z) = fault_at_end why old left n k h.2 c z

  pub finish_err : (result : Result Module CheckFault) (old left : Option (List ℕ)) (n k : ℕ) → Finishes s result → Consumes old left s.taken → (s.ended ≡ true) ⊎ IsAtEnd left → IfErr result (IsCheckFault profile old left n k)
  finish_err (Ok m) old left n k f c z = tt
  finish_err (Err why) old left n k f c z = finish_cause why old left n k f.1 c z

  -- the reader failed, and the bytes read are undecided
  pub read_failed : (old mid new : Option (List ℕ)) → Consumes old mid s.taken → Keeps mid new → IsUndecided profile old new
  read_failed old mid new c k = (s.taken, Consumes-kept old mid new s.taken c k, subst (λ p. AreSoundSoFar p profile_limits s.taken) same open_s.sound)

  -- a refusal in the midst
  module _ (piece : List ℕ) (why : CheckFault) (new : Seen) (f : FailsAs s piece why new) where
    cause_of : (s.fault ≡ Some why) ⊎ ((s.fault ≡ None) × IsCause s piece why) → IsCause s piece why
    cause_of (inl h) = absurd (none_some s.fault why fault h)
    cause_of (inr h) = h.1

  regroup : (piece rest : List ℕ) (count : ℕ) → (s.taken ++ take count piece) ++ (drop count piece ++ rest) ≡ (s.taken ++ piece) ++ rest
  regroup piece rest count =
      append_assoc s.taken (take count piece) (drop count piece ++ rest) ∙ ap (λ x. s.taken ++ x) (sym (append_assoc (take count piece) (drop count piece) rest) ∙ ap (λ x. x ++ rest) (take-append-drop count piece))
      ∙ sym (append_assoc s.taken piece rest)

  feed_by : (why : CheckFault) (piece : List ℕ) (old left : Option (List ℕ)) → IsCause s piece why → Consumes old left (s.taken ++ piece) → (input : List ℕ) → old ≡ Some input → Decides profile input (Err why)
  feed_by check.Memory piece old left f c input e = tt
  feed_by check.Read piece old left f c input e = tt
  feed_by (check.Refused why at) piece old left f c input e =
      let sp = spelled_of old left input (s.taken ++ piece) e c in
      subst (λ x. IsRefused profile profile_limits x why at) (regroup piece sp.0 f.count ∙ sym sp.1)
      (subst (λ p. IsRefused p profile_limits ((s.taken ++ take f.count piece) ++ (drop f.count piece ++ sp.0)) why at) same (f.refused (drop f.count piece ++ sp.0)))

  module _ (not_ended : s.ended ≡ false) (piece : List ℕ) where
    next_is : next_bytes s piece ≡ present (s.at_hand ++ piece)
    next_is = ap (λ b. cond b [] (present (s.at_hand ++ piece))) not_ended

    -- what has come of the record is all of the piece
    grown_all : present (s.at_hand ++ piece) ≡ s.at_hand ++ piece → (count : ℕ) → next_bytes s piece ≡ s.at_hand ++ take count piece → take count piece ≡ piece
    grown_all fits count g =
        let same_parts : s.at_hand ++ piece ≡ s.at_hand ++ take count piece = sym fits ∙ sym next_is ∙ g in
        let a = length-append s.at_hand piece in
        let b = length-append s.at_hand (take count piece) in
        let d = ap length same_parts in
        whole_take count piece (omega (arith, a, b, d))

    refused_here : (why : Reason) (at : Place) (f : RefusesHere s piece why at) → IsRefused profile profile_limits (s.taken ++ take f.count piece) why at
    refused_here why at f = subst (λ p. IsRefused p profile_limits (s.taken ++ take f.count piece) why at) same (subst (λ x. IsRefused s.profile profile_limits x why at) (append-nil (s.taken ++ take f.count piece)) (f.refused []))

    needs_some : (why : Reason) (at : Place) (f : RefusesHere s piece why at) → 0 < length (take f.count piece)
    needs_some why at f = by (take f.count piece) refl
      where
        by : (front : List ℕ) → take f.count piece ≡ front → 0 < length front
        by [] e =
            let before : IsRefused s.profile profile_limits s.taken why at
            = subst (λ x. IsRefused s.profile profile_limits x why at) (append-nil (s.taken ++ take f.count piece) ∙ ap (λ x. s.taken ++ x) e ∙ append-nil s.taken) (f.refused []) in
            absurd (not_early why (s.at_hand ++ take f.count piece) f.judged (no_other s.profile profile_limits s.taken open_s.sound why at before))
        by (x ∷ front) e = omega arith

    -- a piece of no more than the wanted bytes
    of_wanted : length piece ≤ wanted s.at_hand → IsOfRecord s piece
    of_wanted few = record {
      fits = present_wanted s.at_hand piece (open_s.wants not_ended) few;
      needed = λ why at f.
          let e = length-take f.count piece in
          let most : length (take f.count piece) ≤ length piece = omega (arith, e) in
          let least = judged_at_wanted why s.at_hand (take f.count piece) (length piece) (needs_some why at f) most few f.judged in
          whole_take f.count piece least;
      first = λ t h. subst (λ x. length piece ≤ wanted x) h few;
    }

    -- a piece of no more than the record that begins with what was shown
    module _ (ahead zs ys : List ℕ) (begins : begins_record s.at_hand ahead ≡ true) (shown : ahead ++ zs ≡ piece ++ ys) (few : length piece ≤ record_len ahead) where
      hand_is : s.at_hand ≡ []
      hand_is = no_hand s.at_hand ahead begins

      all_fits : present (s.at_hand ++ piece) ≡ s.at_hand ++ piece
      all_fits = subst (λ h. present (h ++ piece) ≡ h ++ piece) (sym hand_is) (fits_ahead ahead zs piece ys shown few)

      all_needed : (why : Reason) (at : Place) (f : RefusesHere s piece why at) → take f.count piece ≡ piece
      all_needed why at f = by piece refl
        where
          by : (bytes : List ℕ) → piece ≡ bytes → take f.count piece ≡ piece
          by [] e = let none : length piece ≡ 0 = ap length e in whole_take f.count piece (omega (arith, none))
          by (b ∷ bytes) e =
              let good : IsTrue (is_taken b) = good_first ahead zs ys b bytes (subst (λ h. begins_record h ahead ≡ true) hand_is begins) (shown ∙ ap (λ x. x ++ ys) e) in
              let now : next_bytes s piece ≡ b ∷ bytes = next_is ∙ all_fits ∙ ap (λ h. h ++ piece) hand_is ∙ e in
              grown_all all_fits f.count (f.whole (subst (λ x. IsTrue (is_taken (slice_index x 0))) (sym now) good))

      of_ahead : is_nonempty s.taken ≡ true → IsOfRecord s piece
      of_ahead some = record {
        fits = all_fits;
        needed = all_needed;
        first = λ t h. absurd (nonempty_taken s.taken t some);
      }

    by_want : (ahead xs ys : List ℕ) → StartsWith xs ahead → xs ≡ piece ++ ys → length piece ≤ want_with s ahead → IsOfRecord s piece
    by_want ahead xs ys starts e low = by (is_nonempty s.taken && (begins_record s.at_hand ahead && not (s.ended || is_some s.fault))) refl low
      where
        by : (b : Bool) → is_nonempty s.taken && (begins_record s.at_hand ahead && not (s.ended || is_some s.fault)) ≡ b → length piece ≤ cond b (record_len ahead) (want_of s) → IsOfRecord s piece
        by true h few =
            let a = both_true (is_nonempty s.taken) _ h in
            let b = both_true (begins_record s.at_hand ahead) _ a.1 in
            of_ahead ahead (drop (length ahead) xs) ys b.0 (sym (starts_with_rest xs ahead starts) ∙ e) few a.0
        by false h few =
            of_wanted (subst (λ n. length piece ≤ n) (ap (λ (f : Option CheckFault). cond (s.ended || is_some f) 0 (wanted s.at_hand)) fault ∙ ap (λ b. cond (b || false) 0 (wanted s.at_hand)) not_ended) few)

    module _ (o : IsOfRecord s piece) where
      all_grown : (count : ℕ) → (next_bytes s piece ≡ s.at_hand ++ take count piece) ⊎ ((s.taken ≡ []) × (s.at_hand ≡ []) × (count ≡ 1)) → take count piece ≡ piece
      all_grown count (inl g) = grown_all o.fits count g
      all_grown count (inr h) =
          let one : length piece ≤ 1 = o.first h.0 h.1 in
          take_all count piece (omega (arith, h.2, one))

      -- a growth needs a byte
      some_read : length s.at_hand < length (next_bytes s piece) → 0 < length (s.taken ++ piece)
      some_read more =
          let all : next_bytes s piece ≡ s.at_hand ++ piece = next_is ∙ o.fits in
          let a = ap length all in
          let b = length-append s.at_hand piece in
          let d = length-append s.taken piece in
          omega (arith, more, a, b, d)

      cause_by : (why : CheckFault) (old left : Option (List ℕ)) (n k : ℕ) → IsCause s piece why → Consumes old left (s.taken ++ piece) → IsCheckFault profile old left n k why
      cause_by check.Memory old left n k f c =
          let e = all_grown f.count f.judged in (
            s.taken ++ piece,
            c,
            subst (λ p. AreSoundSoFar p profile_limits (s.taken ++ piece)) same (subst (λ x. AreSoundSoFar s.profile profile_limits (s.taken ++ x)) e f.sound),
            some_read f.needed,
          )
      cause_by check.Read old left n k f c = absurd f
      cause_by (check.Refused why at) old left n k f c =
          let e = o.needed why at f in (
            s.taken ++ piece,
            c,
            (subst (λ x. IsRefused profile profile_limits (s.taken ++ x) why at) e (refused_here why at f), inr (subst (EndsWhereJudged why) (sym f.of_it ∙ ap (λ x. drop at.start (s.taken ++ x)) e) f.judged)),
          )

    -- of a reader that tells no bytes, any will do
    some_piece : s.at_hand ≡ [] → length s.at_hand < length (next_bytes s piece) → 0 < length piece
    some_piece h more = by piece (subst (λ x. length x < length (present (x ++ piece))) h (subst (λ x. length s.at_hand < length x) next_is more))
      where
        by : (bytes : List ℕ) → 0 < length (present bytes) → 0 < length bytes
        by [] k = absurd (omega (arith, k))
        by (b ∷ bytes) k = omega arith

    some_taken : (count : ℕ) → length s.at_hand < length (next_bytes s piece) → (next_bytes s piece ≡ s.at_hand ++ take count piece) ⊎ ((s.taken ≡ []) × (s.at_hand ≡ []) × (count ≡ 1))
        → 0 < length (s.taken ++ take count piece)
    some_taken count more (inl g) =
        let a = ap length g in
        let b = length-append s.at_hand (take count piece) in
        let d = length-append s.taken (take count piece) in
        omega (arith, more, a, b, d)
    some_taken count more (inr h) =
        let some = some_piece h.1 more in
        let b = length-take count piece in
        let d = length-append s.taken (take count piece) in
        omega (arith, some, h.2, b, d)

    untold : (why : CheckFault) (left : Option (List ℕ)) (n k : ℕ) → IsCause s piece why → IsCheckFault profile None left n k why
    untold check.Memory left n k f = (s.taken ++ take f.count piece, tt, subst (λ p. AreSoundSoFar p profile_limits (s.taken ++ take f.count piece)) same f.sound, some_taken f.count f.needed f.judged)
    untold check.Read left n k f = absurd f
    untold (check.Refused why at) left n k f = (s.taken ++ take f.count piece, tt, (refused_here why at f, inr (subst (EndsWhereJudged why) (sym f.of_it) f.judged)))

  -- it wants none only at the end
  pub no_want : (ahead : List ℕ) → want_with s ahead ≡ 0 → want_of s ≡ 0
  no_want ahead e = by (is_nonempty s.taken && (begins_record s.at_hand ahead && not (s.ended || is_some s.fault))) (record_len ahead) (want_of s) (three ahead) e
    where
      by : (b : Bool) (n k : ℕ) → 3 ≤ n → cond b n k ≡ 0 → k ≡ 0
      by true n k h z = absurd (omega (arith, h, z))
      by false n k h z = z

  pub runs : (ahead : List ℕ) (m w : ℕ) → (m ≡ 0 → ⊥) → m ≡ min w 4096 → w ≡ want_with s ahead → s.ended ≡ false
  runs ahead m w some e f = by s.ended refl
    where
      none_behind : s.ended ≡ true → want_with s ahead ≡ 0
      none_behind over =
          ap (λ x. cond (is_nonempty s.taken && (begins_record s.at_hand ahead && not (x || is_some s.fault))) (record_len ahead) (cond (x || is_some s.fault) 0 (wanted s.at_hand))) over
          ∙ ap (λ x. cond x (record_len ahead) 0) (never (is_nonempty s.taken) (begins_record s.at_hand ahead))

      by : (b : Bool) → s.ended ≡ b → s.ended ≡ false
      by false h = h
      by true h =
          let z : w ≡ 0 = f ∙ none_behind h in
          let y : m ≡ 0 = omega (arith, e, z) in
          absurd (some y)

  -- and then there are fewer bytes to come
  pub fewer_left : (piece : List ℕ) (count : ℕ) (whole : Bool) (new : Seen) → s.ended ≡ false → 0 < length piece → Takes s piece count whole new → 2 ^ 37 - length new.taken < 2 ^ 37 - length s.taken
  fewer_left piece count whole new e some t =
      let want = open_s.wants e in
      let is : want_of s ≡ wanted s.at_hand = ap (λ (f : Option CheckFault). cond (s.ended || is_some f) 0 (wanted s.at_hand)) fault ∙ ap (λ b. cond (b || false) 0 (wanted s.at_hand)) e in
      let least = t.all_wanted in
      let most = t.bound in
      let size : length new.taken ≡ length s.taken + length (take count piece) = ap length t.taken ∙ length-append s.taken (take count piece) in
      let part = length-take count piece in
      let room = t.is_open.bounded in
      omega (arith, want, is, least, most, size, part, room, some)

  pub feed_decides : (why : CheckFault) (piece : List ℕ) (new : Seen) (old between left : Option (List ℕ)) → FailsAs s piece why new → Consumes old between s.taken → Consumes between left piece
      → (input : List ℕ) → old ≡ Some input → Decides profile input (Err why)
  feed_decides why piece new old between left f c k input e = feed_by why piece old left (cause_of piece why new f f.cause) (consumes_more old between left s.taken piece c k) input e

  pub feed_cause : (why : CheckFault) (piece ahead : List ℕ) (new : Seen) (old between left : Option (List ℕ)) (n m : ℕ) → Shows between ahead → length piece ≤ want_with s ahead
      → FailsAs s piece why new → Consumes old between s.taken → Consumes between left piece → IsCheckFault profile old left n m why
  feed_cause why piece ahead new None between left n m shows low f c k = untold f.not_ended piece why left n m (cause_of piece why new f f.cause)
  feed_cause why piece ahead new (Some input) None left n m shows low f c k = absurd c
  feed_cause why piece ahead new (Some input) (Some xs) None n m shows low f c k = absurd k
  feed_cause why piece ahead new (Some input) (Some xs) (Some ys) n m shows low f c k =
      cause_by f.not_ended piece (by_want f.not_ended piece ahead xs ys shows k low) why (Some input) (Some ys) n m (cause_of piece why new f f.cause)
      (consumes_more (Some input) (Some xs) (Some ys) s.taken piece c k)

  -- all of a piece that is not more than wanted is taken
  pub feed_consumes : (piece ahead : List ℕ) (count : ℕ) (whole : Bool) (new : Seen) (old between left : Option (List ℕ)) → s.ended ≡ false → Shows between ahead → length piece ≤ want_with s ahead
      → Takes s piece count whole new → Consumes old between s.taken → Consumes between left piece → Consumes old left new.taken
  feed_consumes piece ahead count whole new None between left e shows low t c k = tt
  feed_consumes piece ahead count whole new (Some input) None left e shows low t c k = absurd c
  feed_consumes piece ahead count whole new (Some input) (Some xs) None e shows low t c k = absurd k
  feed_consumes piece ahead count whole new (Some input) (Some xs) (Some ys) e shows low t c k =
      let o = by_want e piece ahead xs ys shows k low in
      let all : take count piece ≡ piece = grown_all e piece o.fits count t.grown in
      subst (λ x. Consumes (Some input) (Some ys) x) (sym (t.taken ∙ ap (λ x. s.taken ++ x) all)) (consumes_more (Some input) (Some xs) (Some ys) s.taken piece c k)

-- Where the bytes that were taken are kept, they are a session's.
module _ (profile : Profile) (old new : Option (List ℕ)) (had bytes : List ℕ) (held : Held) (kept : Kept) (size : ℕ) (none : had ≡ []) (h : HasTaken profile old new (Some had) (Some bytes) held kept size) where
  all_kept : h.taken ≡ bytes
  all_kept = sym (h.grown ∙ ap (λ x. x ++ h.taken) none)

  pub kept_passing : IsPassing profile held bytes kept
  kept_passing = subst (λ x. IsPassing profile held x kept) all_kept h.passing

  kept_consumed : Consumes old new bytes
  kept_consumed = subst (Consumes old new) all_kept h.consumed

  kept_open : IsOpen (here profile held bytes)
  kept_open = open_here profile held bytes kept kept_passing (taken_bound profile held bytes kept kept_passing) (here profile held bytes) refl refl refl refl

  pub kept_decides : (result : Result Module CheckFault) → Finishes (here profile held bytes) result → (held.ended ≡ true) ⊎ IsAtEnd new → (input : List ℕ) → old ≡ Some input → Decides profile input result
  kept_decides result f k input e = finish_decides profile (here profile held bytes) kept_open refl refl result old new f kept_consumed k input e

  pub kept_cause : (result : Result Module CheckFault) (n k : ℕ) → Finishes (here profile held bytes) result → (held.ended ≡ true) ⊎ IsAtEnd new → IfErr result (IsCheckFault profile old new n k)
  kept_cause result n k f z = finish_err profile (here profile held bytes) kept_open refl refl result old new n k f kept_consumed z

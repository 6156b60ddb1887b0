-- The place where the current record is refused, and the faults found before memory runs out.
use Rattle.std.proofs.Common.{◌≡◌, ℕ, zero, suc, ◌+◌, ◌-◌, ◌*◌, ◌<◌, ◌≤◌, Bool, true, false, cond, List, [], ◌∷◌, ◌++◌, refl, sym, ◌∙◌, ap, subst, arith, append_assoc, length, take, drop, min, inl, inr}
use Rattle.std.specs.Prelude.{flat_map, IsTrue, ◌==◌, ◌||◌, nat_le, not, sum, ◌%◌, slice_index, Option, Some, None, option_map}
use Rattle.std.specs.Option.{option_or}
use Rattle.std.proofs.lemmas.Bool.{leb-true, leb-false, eqb-true}
use Rattle.std.proofs.lemmas.List.{length-append, length-take, drop_at}
use Rattle.omf_frame.specs.Inner.Names.{is_unsupported, lasting}
use Rattle.omf_frame.specs.Bytes.{AreBytes}
use Rattle.omf_frame.specs.Fault.{Fault, least, first_step}
use Rattle.omf_frame.specs.Framing.{Raw, raw_bytes, is_taken, is_header, is_whole, present, front_record, stated_length, type_faults, frame_steps, frame_fault, standing_fault, record_len}
use Rattle.omf_frame.specs.Framer.{Held, refused}
use Rattle.omf_frame.specs.Framer.{next_bytes as next_of}
use Rattle.omf_frame.specs.Inner.Judging.{found, type_fault, whole_fault}
use Rattle.omf_frame.specs.declared.fault.FrameFault.TheVariants as frame
use Rattle.omf_frame.specs.declared.fault.Place.{Place}
use Rattle.omf_frame.specs.declared.fault.Reason.{Reason}
use Rattle.omf_frame.specs.declared.fault.Reason.TheVariants as reason
use Rattle.omf_frame.proofs.Growing.{grown, type_same, type_later}
use Rattle.omf_frame.proofs.Judged.{standing_is, sound_type}
use Rattle.omf_frame.proofs.FaultLaws.{untrue}
use Rattle.omf_frame.proofs.Standing.{present_twice}
use Rattle.omf_frame.proofs.StepLaws.{known_supported}
use Rattle.omf_records.specs.Inner.Steps.{AreBytes-back}
use Rattle.omf_image.specs.Limits.{profile_limits}
use Rattle.omf_check.specs.declared.fault.CheckFault.TheVariants as check
use Rattle.omf_check.specs.declared.profile.Profile.{Profile}
use Rattle.omf_check.specs.Inner.Judging.{raw_fault}
use Rattle.omf_check.specs.Inner.Kept.{Kept}
use Rattle.omf_check.specs.Refusal.{EndsWhereJudged}
use Rattle.omf_check.specs.Session.{RefusesHere, LacksMemory}
use Rattle.omf_check.specs.Inner.Passing.{IsPassing, here, refused_at}
pub use Rattle.omf_check.proofs.RefusedLaws.{body_small}
use Rattle.omf_check.proofs.Passing.{framing_refuses, record_refuses, part_sound}
use Rattle.omf_check.proofs.ReasonLaws.{IsInner, FaultInner, inner_of, raw_inner}

some_same : {A : Type 0} (x y : A) → ◌≡◌ {A = Option A} (Some x) (Some y) → x ≡ y
some_same x y e = cc

none_some : {A : Type 0} (x : A) → ◌≡◌ {A = Option A} None (Some x) → ⊥
none_some x e = cc

-- The places where faults of framing are decided.
pub type_ends : (t : ℕ) (q : Reason × ℕ) → type_fault (t ∷ []) ≡ Some q → EndsWhereJudged q.0 (t ∷ [])
unfolding type_fault
type_ends t q e = by (is_unsupported t) (is_taken t) e
  where
    by : (u k : Bool) → cond u (Some (reason.UnsupportedType, 0)) (cond k None (Some (reason.UnknownType, 0))) ≡ Some q → EndsWhereJudged q.0 (t ∷ [])
    by true k h = subst (λ (x : Reason × ℕ). EndsWhereJudged x.0 (t ∷ [])) (some_same (reason.UnsupportedType, 0) q h) refl
    by false true h = absurd (none_some q h)
    by false false h = subst (λ (x : Reason × ℕ). EndsWhereJudged x.0 (t ∷ [])) (some_same (reason.UnknownType, 0) q h) refl

-- a whole record and nothing more is as long as it says
pub whole_length : (bytes : List ℕ) → is_whole bytes ≡ true → present bytes ≡ bytes → length bytes ≡ 3 + stated_length bytes
whole_length [] w e = absurd cc
whole_length (t ∷ []) w e = absurd cc
whole_length (t ∷ lo ∷ []) w e = absurd cc
whole_length (t ∷ lo ∷ hi ∷ bytes) w e =
    let enough : lo + 256 * hi ≤ length bytes = leb-true (lo + 256 * hi) (length bytes) w in
    omega (arith, enough, ap length e, length-take (lo + 256 * hi) bytes)

pub whole_ends : (f : Bool) (bytes : List ℕ) (q : Reason × ℕ) → present bytes ≡ bytes → whole_fault f bytes ≡ Some q → EndsWhereJudged q.0 bytes
unfolding whole_fault
whole_ends f [] q same e = absurd (none_some q e)
whole_ends f (t ∷ []) q same e = absurd (none_some q e)
whole_ends f (t ∷ lo ∷ []) q same e = absurd (none_some q e)
whole_ends f (t ∷ lo ∷ hi ∷ rest) q same e =
    by (nat_le (lo + 256 * hi) (length rest)) refl (lo + 256 * hi == 0) refl
    ((slice_index (t ∷ lo ∷ hi ∷ rest) (2 + (lo + 256 * hi)) == 0) || (sum (t ∷ lo ∷ hi ∷ rest) % 256 == 0)) (not f || is_header t) e
  where
    bytes : List ℕ
    bytes = t ∷ lo ∷ hi ∷ rest

    at : ℕ
    at = 2 + (lo + 256 * hi)

    named : (r : Reason) (w : ℕ) → ◌≡◌ {A = Option (Reason × ℕ)} (Some (r, w)) (Some q) → EndsWhereJudged r bytes → EndsWhereJudged q.0 bytes
    named r w h x = subst (λ (y : Reason × ℕ). EndsWhereJudged y.0 bytes) (some_same (r, w) q h) x

    by : (w : Bool) → nat_le (lo + 256 * hi) (length rest) ≡ w → (z : Bool) → (lo + 256 * hi == 0) ≡ z → (c h : Bool)
        → cond (not w) None (cond z (Some (reason.EmptyRecord, 1)) (cond (not c) (Some (reason.Checksum, at)) (cond (not h) (Some (reason.NoHeader, 0)) None))) ≡ Some q → EndsWhereJudged q.0 bytes
    by false w z y c h k = absurd (none_some q k)
    by true w true y c h k =
        let none : lo + 256 * hi ≡ 0 = eqb-true (lo + 256 * hi) 0 y in
        named reason.EmptyRecord 1 k (omega (arith, none, whole_length bytes w same))
    by true w false y false h k = named reason.Checksum at k (whole_length bytes w same)
    by true w false y true false k = named reason.NoHeader 0 k (whole_length bytes w same)
    by true w false y true true k = absurd (none_some q k)

-- a type that is taken has no fault
good_type : (bytes : List ℕ) → IsTrue (is_taken (slice_index bytes 0)) → type_fault bytes ≡ None
unfolding type_fault
good_type [] h = refl
good_type (t ∷ rest) h = by (is_unsupported t) (is_taken t) (known_supported t h) h
  where
    by : (u k : Bool) → IsTrue (not u) → IsTrue k → ◌≡◌ {A = Option (Reason × ℕ)} (cond u (Some (reason.UnsupportedType, 0)) (cond k None (Some (reason.UnknownType, 0)))) None
    by true k n h = absurd (untrue n)
    by false true n h = refl
    by false false n h = absurd (untrue h)

-- where the others are
pub inner_ends : (why : Reason) (part : List ℕ) → IsInner why → length part ≡ 3 + stated_length part → EndsWhereJudged why part
inner_ends reason.NoEnd part h e = absurd (omega (arith, h))
inner_ends reason.Cut part h e = absurd (omega (arith, h))
inner_ends reason.UnknownType part h e = absurd (omega (arith, h))
inner_ends reason.UnsupportedType part h e = absurd (omega (arith, h))
inner_ends reason.EmptyRecord part h e = absurd (omega (arith, h))
inner_ends _ part h e = e

-- a part of a record is not longer than the record
part_short : (a : List ℕ) → is_whole a ≡ false → length a ≤ record_len a
part_short [] h = omega arith
part_short (t ∷ []) h = omega arith
part_short (t ∷ lo ∷ []) h = omega arith
part_short (t ∷ lo ∷ hi ∷ a) h = let less = leb-false (lo + 256 * hi) (length a) h in omega (arith, less)

-- the type byte that is refused is the first of the piece
first_byte : (hand piece : List ℕ) (q : Reason × ℕ) → type_fault hand ≡ None → type_fault (present (hand ++ piece)) ≡ Some q
    → (t : ℕ) × (hand ++ take 1 piece ≡ t ∷ []) × (type_fault (t ∷ []) ≡ Some q)
unfolding type_fault
first_byte [] [] q n e = absurd (none_some q e)
first_byte [] (t ∷ piece) q n e = (t, refl, type_same (t ∷ piece) ∙ e)
first_byte (k ∷ hand) piece q n e = let some : 0 < length (k ∷ hand) = omega arith in absurd (none_some q (type_later (k ∷ hand) piece some n ∙ e))

append_small : (xs ys : List ℕ) → AreBytes xs → AreBytes ys → AreBytes (xs ++ ys)
append_small [] ys h k i = k i
append_small (x ∷ xs) ys h k zero = h 0
append_small (x ∷ xs) ys h k (suc i) = append_small xs ys (λ j. h (suc j)) k i

-- a list that grew into a whole record became longer
pub whole_longer : (a b now : List ℕ) → now ≡ a ++ b → is_whole a ≡ false → is_whole now ≡ true → length a < length now
whole_longer a [] now e h w = absurd (clash (sym w ∙ ap is_whole (e ∙ nothing a) ∙ h))
  where
    clash : true ≡ false → ⊥
    clash e = cc

    nothing : (a : List ℕ) → a ++ [] ≡ a
    nothing [] = refl
    nothing (x ∷ a) = ap (λ t. x ∷ t) (nothing a)
whole_longer a (x ∷ b) now e h w = omega (arith, ap length e, length-append a (x ∷ b))

-- a first byte whose type is good has no fault that stands
first_sound : (f : Bool) (hand piece : List ℕ) → hand ≡ [] → 0 < length (present (hand ++ piece)) → type_faults (slice_index (present (hand ++ piece)) 0) ≡ []
    → (standing_fault f (hand ++ take 1 piece) ≡ None) × (is_whole (hand ++ take 1 piece) ≡ false)
first_sound f [] [] n some typed = absurd (omega (arith, some))
first_sound f [] (t ∷ piece) n some typed = (alone (type_faults t) (by piece typed), refl)
  where
    by : (more : List ℕ) → type_faults (slice_index (present (t ∷ more)) 0) ≡ [] → type_faults t ≡ []
    by [] h = h
    by (lo ∷ []) h = h
    by (lo ∷ hi ∷ more) h = h

    alone : (fs : List Fault) → fs ≡ [] → lasting (least (first_step ([] ∷ fs ∷ drop 2 (frame_steps f (t ∷ []))))) ≡ None
    alone fs e = ap (λ gs. lasting (least (first_step ([] ∷ gs ∷ drop 2 (frame_steps f (t ∷ [])))))) e
first_sound f (x ∷ hand) piece n some typed = absurd cc

module _ (profile : Profile) (held : Held) (taken : List ℕ) (kept : Kept) (p : IsPassing profile held taken kept) where
  abbrev first : Bool
  first = held.number == 0

  -- from the record's start on
  from_start : (at : Place) → held.start ≡ at.start → (front : List ℕ) → drop at.start (taken ++ front) ≡ held.bytes ++ front
  from_start at e front =
      let flat : List ℕ = flat_map raw_bytes p.before in
      ap (λ n. drop n (taken ++ front)) (sym e ∙ p.start) ∙ ap (λ x. drop (length flat) (x ++ front)) p.spelled
      ∙ ap (drop (length flat)) (append_assoc flat held.bytes front) ∙ drop_at flat (held.bytes ++ front) (length flat) refl

  reason_of : (f : Fault) (why : Reason) (at : Place) → option_map (refused held) (Some f) ≡ Some (frame.Refused why at) → f.reason ≡ why
  reason_of f why at h = cc

  start_of : (f : Fault) (why : Reason) (at : Place) → option_map (refused held) (Some f) ≡ Some (frame.Refused why at) → held.start ≡ at.start
  start_of f why at h = cc

  -- A refusal by the framer: of the type byte, or of a whole record.
  -- the type of the record at hand, before its end
  good_now : held.ended ≡ false → (piece : List ℕ) → IsTrue (is_taken (slice_index (next_of held piece) 0)) → IsTrue (is_taken (slice_index (present (held.bytes ++ piece)) 0))
  good_now e piece k = subst (λ b. IsTrue (is_taken (slice_index (cond b [] (present (held.bytes ++ piece))) 0))) e k

  by_type_byte : held.ended ≡ false → (piece : List ℕ) (f : Fault) (why : Reason) (at : Place) → option_map (refused held) (Some f) ≡ Some (frame.Refused why at) → (q : Reason × ℕ)
      → type_fault (present (held.bytes ++ piece)) ≡ Some q → found q ≡ f → RefusesHere (here profile held taken) piece why at
  by_type_byte e piece f why at named q h is =
      let b = first_byte held.bytes piece q (sound_type first held.bytes p.standing) h in
      let reason_is : q.0 ≡ why = ap (λ (x : Fault). x.reason) is ∙ reason_of f why at named in
      let alone : present (held.bytes ++ take 1 piece) ≡ b.0 ∷ [] = ap present b.1 in
      let stands : standing_fault first (present (held.bytes ++ take 1 piece)) ≡ Some f
      = ap (standing_fault first) alone ∙ standing_is first (b.0 ∷ []) ∙ ap (λ o. option_map found (option_or o (whole_fault first (b.0 ∷ [])))) b.2 ∙ ap (λ x. Some x) is in
      record {
        count = 1;
        of_it = from_start at (start_of f why at named) (take 1 piece);
        judged = subst (λ x. EndsWhereJudged why x) (sym b.1) (subst (λ r. EndsWhereJudged r (b.0 ∷ [])) reason_is (type_ends b.0 q b.2));
        whole = λ k. absurd (none_some q (sym (good_type (present (held.bytes ++ piece)) (good_now e piece k)) ∙ h));
        refused = λ more. framing_refuses profile held taken kept p e (take 1 piece) more f why at stands named;
      }

  count_of : List ℕ → ℕ
  count_of piece = min (record_len (held.bytes ++ piece) - length held.bytes) (length piece)

  grows : (piece : List ℕ) → held.bytes ++ take (count_of piece) piece ≡ present (held.bytes ++ piece)
  unfolding count_of
  grows piece = grown held.bytes piece (part_short held.bytes p.partial)

  -- a part that is what is there of the record
  present_of : (piece front : List ℕ) → held.bytes ++ front ≡ present (held.bytes ++ piece) → present (held.bytes ++ front) ≡ present (held.bytes ++ piece)
  present_of piece front e = ap present e ∙ present_twice (held.bytes ++ piece)

  by_whole : held.ended ≡ false → (piece : List ℕ) (f : Fault) (why : Reason) (at : Place) → option_map (refused held) (Some f) ≡ Some (frame.Refused why at)
      → standing_fault first (present (held.bytes ++ piece)) ≡ Some f → (q : Reason × ℕ) → whole_fault first (present (held.bytes ++ piece)) ≡ Some q → found q ≡ f
      → RefusesHere (here profile held taken) piece why at
  by_whole e piece f why at named s q h is =
      let reason_is : q.0 ≡ why = ap (λ (x : Fault). x.reason) is ∙ reason_of f why at named in
      let g = grows piece in
      record {
        count = count_of piece;
        of_it = from_start at (start_of f why at named) (take (count_of piece) piece);
        judged = subst (λ x. EndsWhereJudged why x) (sym g) (subst (λ r. EndsWhereJudged r (present (held.bytes ++ piece))) reason_is
            (whole_ends first (present (held.bytes ++ piece)) q (present_twice (held.bytes ++ piece)) h));
        whole = λ k. ap (λ b. cond b [] (present (held.bytes ++ piece))) e ∙ sym g;
        refused = λ more. framing_refuses profile held taken kept p e (take (count_of piece) piece) more f why at (ap (standing_fault first) (present_of piece (take (count_of piece) piece) g) ∙ s) named;
      }

  found_some : (o : Option (Reason × ℕ)) (f : Fault) → option_map found o ≡ Some f → (q : Reason × ℕ) × (o ≡ Some q) × (found q ≡ f)
  found_some None f e = absurd (none_some f e)
  found_some (Some q) f e = (q, refl, some_same (found q) f e)

  by_fault : held.ended ≡ false → (piece : List ℕ) (f : Fault) (why : Reason) (at : Place) → option_map (refused held) (Some f) ≡ Some (frame.Refused why at)
      → standing_fault first (present (held.bytes ++ piece)) ≡ Some f → (o : Option (Reason × ℕ)) → type_fault (present (held.bytes ++ piece)) ≡ o → RefusesHere (here profile held taken) piece why at
  by_fault e piece f why at named s (Some q) h =
      let now : List ℕ = present (held.bytes ++ piece) in
      let is : found q ≡ f = some_same (found q) f (ap (λ o. option_map found (option_or o (whole_fault first now))) (sym h) ∙ sym (standing_is first now) ∙ s) in
      by_type_byte e piece f why at named q h is
  by_fault e piece f why at named s None h =
      let now : List ℕ = present (held.bytes ++ piece) in
      let x = found_some (whole_fault first now) f (ap (λ o. option_map found (option_or o (whole_fault first now))) (sym h) ∙ sym (standing_is first now) ∙ s) in
      by_whole e piece f why at named s x.0 x.1 x.2

  by_option : held.ended ≡ false → (piece : List ℕ) (o : Option Fault) (why : Reason) (at : Place) → standing_fault first (present (held.bytes ++ piece)) ≡ o
      → option_map (refused held) o ≡ Some (frame.Refused why at) → RefusesHere (here profile held taken) piece why at
  by_option e piece None why at s h = absurd (none_some (frame.Refused why at) h)
  by_option e piece (Some f) why at s h = by_fault e piece f why at h s (type_fault (present (held.bytes ++ piece))) refl

  pub framer_here : held.ended ≡ false → (piece : List ℕ) (why : Reason) (at : Place) → option_map (refused held) (standing_fault first (next_of held piece)) ≡ Some (frame.Refused why at)
      → RefusesHere (here profile held taken) piece why at
  framer_here e piece why at h =
      by_option e piece (standing_fault first (present (held.bytes ++ piece))) why at refl
      (ap (λ b. option_map (refused held) (standing_fault first (cond b [] (present (held.bytes ++ piece))))) (sym e) ∙ h)

  -- A refusal of a record that is framed.
  judged_reason : (f : Fault) (why : Reason) (at : Place) → option_map (refused_at held.number held.start) (Some f) ≡ Some (check.Refused why at) → f.reason ≡ why
  judged_reason f why at h = cc

  judged_start : (f : Fault) (why : Reason) (at : Place) → option_map (refused_at held.number held.start) (Some f) ≡ Some (check.Refused why at) → held.start ≡ at.start
  judged_start f why at h = cc

  module _ (e : held.ended ≡ false) (piece : List ℕ) (count : ℕ) (g : next_of held piece ≡ held.bytes ++ take count piece) where
    next_is : present (held.bytes ++ piece) ≡ next_of held piece
    next_is = ap (λ b. cond b [] (present (held.bytes ++ piece))) (sym e)

    part_is : held.bytes ++ take count piece ≡ present (held.bytes ++ piece)
    part_is = sym g ∙ sym next_is

    part_small : AreBytes (take count piece) → AreBytes (next_of held piece)
    part_small small = subst AreBytes (sym g) (append_small held.bytes (take count piece) (AreBytes-back (flat_map raw_bytes p.before) held.bytes (subst AreBytes p.spelled p.small)) small)

    record_by : AreBytes (take count piece) → (o : Option Fault) (why : Reason) (at : Place) → is_whole (next_of held piece) ≡ true → frame_fault first (next_of held piece) ≡ None
        → raw_fault profile profile_limits kept (front_record (next_of held piece)).kind (front_record (next_of held piece)).body ≡ o → FaultInner o
        → option_map (refused_at held.number held.start) o ≡ Some (check.Refused why at) → RefusesHere (here profile held taken) piece why at
    record_by small None why at w s r inner h = absurd (none_some (check.Refused why at) h)
    record_by small (Some f) why at w s r inner h =
        let now : List ℕ = next_of held piece in
        let reason_is : f.reason ≡ why = judged_reason f why at h in
        let start_is : held.start ≡ at.start = judged_start f why at h in
        let same : present (held.bytes ++ take count piece) ≡ now = present_of piece (take count piece) part_is ∙ next_is in
        let long : length now ≡ 3 + stated_length now = whole_length now w (ap present (sym next_is) ∙ present_twice (held.bytes ++ piece) ∙ next_is) in
        record {
          count = count;
          of_it = from_start at start_is (take count piece);
          judged = subst (λ x. EndsWhereJudged why x) g (inner_ends why now (subst IsInner reason_is (inner_of f inner)) long);
          whole = λ k. g;
          refused = λ more. record_refuses profile held taken kept p e (take count piece) more now why at (part_small small) (sym same) w s (ap (option_map (refused_at held.number held.start)) r ∙ h);
        }

    pub record_here : AreBytes (take count piece) → (why : Reason) (at : Place) → is_whole (next_of held piece) ≡ true → frame_fault first (next_of held piece) ≡ None
        → option_map (refused_at held.number held.start) (raw_fault profile profile_limits kept (front_record (next_of held piece)).kind (front_record (next_of held piece)).body) ≡ Some (check.Refused why at)
        → RefusesHere (here profile held taken) piece why at
    record_here small why at w s h =
        let now : List ℕ = next_of held piece in
        record_by small (raw_fault profile profile_limits kept (front_record now).kind (front_record now).body) why at w s refl
        (raw_inner kept profile profile_limits (front_record now).kind (front_record now).body (body_small now (part_small small))) h

  -- Before memory runs out there is no fault in the bytes taken of an incomplete record.
  pub lacks_part : held.ended ≡ false → (piece : List ℕ) (count : ℕ) → next_of held piece ≡ held.bytes ++ take count piece → length held.bytes < length (next_of held piece)
      → is_whole (next_of held piece) ≡ false → standing_fault first (next_of held piece) ≡ None → LacksMemory (here profile held taken) piece
  lacks_part e piece count g more w s = record {
    count = count;
    needed = more;
    judged = inl g;
    sound = part_sound profile held taken kept p e (take count piece) (next_of held piece) (sym g) w s;
  }

  -- nor in the first byte of all
  no_bytes : held.number ≡ 0 → held.bytes ≡ [] → taken ≡ []
  no_bytes n h = p.spelled ∙ ap (λ bs. flat_map raw_bytes p.before ++ bs) h ∙ ap (λ rs. flat_map raw_bytes rs ++ []) (nothing p.before (sym p.number ∙ n))
    where
      nothing : (rs : List Raw) → length rs ≡ 0 → rs ≡ []
      nothing [] e = refl
      nothing (r ∷ rs) e = absurd cc

  pub lacks_first : held.ended ≡ false → (piece : List ℕ) → held.number ≡ 0 → held.bytes ≡ [] → 0 < length (next_of held piece) → type_faults (slice_index (next_of held piece) 0) ≡ []
      → LacksMemory (here profile held taken) piece
  lacks_first e piece n h more typed =
      let next : next_of held piece ≡ present (held.bytes ++ piece) = ap (λ b. cond b [] (present (held.bytes ++ piece))) e in
      let x = first_sound first held.bytes piece h (subst (λ bs. 0 < length bs) next more) (subst (λ bs. type_faults (slice_index bs 0) ≡ []) next typed) in
      record {
        count = 1;
        needed = subst (λ bs. length bs < length (next_of held piece)) (sym h) more;
        judged = inr (no_bytes n h, h, refl);
        sound = part_sound profile held taken kept p e (take 1 piece) (held.bytes ++ take 1 piece) refl x.1 x.0;
      }

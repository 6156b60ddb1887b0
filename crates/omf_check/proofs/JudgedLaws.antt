-- A refusal is decided by a prefix of the input that ends where the record at fault is refused, and by no shorter one.
use Rattle.std.proofs.Common.{◌≡◌, ◌≢◌, ℕ, ◌+◌, ◌*◌, Bool, true, false, cond, List, [], ◌∷◌, ◌++◌, Option, Some, None, refl, sym, ◌∙◌, ap, subst, arith, append_assoc, length, drop, inl, inr}
use Rattle.std.specs.Prelude.{◌⊎◌, ◌↔◌, flat_map, option_map}
use Rattle.std.specs.Option.{option_or}
use Rattle.std.proofs.lemmas.List.{append-nil, length-append, map-append, drop_at, take-append-drop}
use Rattle.omf_frame.specs.Bytes.{AreBytes}
use Rattle.omf_frame.specs.Fault.{Fault, IsLeast, least, least_or, first_step}
use Rattle.omf_frame.specs.Framing.{Raw, raw_bytes, present, front_record, stated_length, is_end_of_input, frame_steps, frame_fault, standing_fault}
use Rattle.omf_frame.specs.Inner.Names.{lasting}
use Rattle.omf_frame.specs.Inner.Judging.{found, type_fault, whole_fault}
use Rattle.omf_frame.specs.declared.fault.Place.{Place}
use Rattle.omf_frame.specs.declared.fault.Reason.{Reason}
use Rattle.omf_frame.specs.declared.fault.Reason.TheVariants as reason
use Rattle.omf_frame.proofs.FaultLaws.{least_is_least, least_unique}
use Rattle.omf_frame.proofs.Growing.{type_same}
use Rattle.omf_frame.proofs.Judged.{standing_is}
use Rattle.omf_frame.proofs.Standing.{present_twice, lasting_some}
use Rattle.omf_frame.proofs.StepLaws.{clean_steps, framed_of}
use Rattle.omf_records.specs.Inner.Reading.{typed}
use Rattle.omf_records.specs.Inner.Steps.{AreBytes-front, AreBytes-back}
use Rattle.omf_image.specs.declared.limits.Limits.{Limits}
use Rattle.omf_check.specs.declared.profile.Profile.{Profile}
use Rattle.omf_check.specs.Inner.Judging.{raw_fault}
use Rattle.omf_check.specs.Inner.Kept.{Kept, Tells, nothing_kept, with_record}
use Rattle.omf_check.specs.Laws.{NoneShorter}
use Rattle.omf_check.specs.Inner.Faults.{faults_after, record_steps}
use Rattle.omf_check.specs.Refusal.{IsRefused, AreSoundSoFar, EndsWhereJudged}
use Rattle.omf_check.specs.Inner.Names.{is_empty}
use Rattle.omf_check.specs.WellFormed.{IsAccepted, recs}
use Rattle.omf_check.proofs.AcceptLaws.{never_both}
use Rattle.omf_check.proofs.KeptLaws.{nothing_tells, tells_more}
use Rattle.omf_check.proofs.Passing.{first_none, first_some, least_some}
use Rattle.omf_check.proofs.ReasonLaws.{FaultInner, inner_of, raw_inner}
use Rattle.omf_check.proofs.RecordLaws.{raw_law}
use Rattle.omf_check.proofs.RefusalLaws.{refusal_stays}
use Rattle.omf_check.proofs.RefusedLaws.{refused-first, refused-read, bodies_of, body_small, present_small}
use Rattle.omf_check.proofs.Refusing.{type_ends, whole_length, whole_ends, inner_ends}
use Rattle.omf_check.proofs.SoundBytes.{no_other}
use Rattle.omf_check.proofs.UniqueLaws.{nothing_least, refused_once}
use Rattle.omf_check.proofs.VerdictLaws.{either}

some_same : {A : Type 0} (x y : A) → ◌≡◌ {A = Option A} (Some x) (Some y) → x ≡ y
some_same x y e = cc

none_some : {A : Type 0} (x : A) → ◌≡◌ {A = Option A} None (Some x) → ⊥
none_some x e = cc

clash : (b : Bool) → b ≡ true → b ≡ false → ⊥
clash b e h = cc

-- some state is that after the records
tells_on : (done more : List Raw) (kept : Kept) → Tells kept (recs done) → (k : Kept) × Tells k (recs (done ++ more))
tells_on done [] kept h = (kept, subst (λ rs. Tells kept (recs rs)) (sym (append-nil done)) h)
tells_on done (r ∷ more) kept h =
    let now : Kept = with_record kept 0 (typed r) in
    let x = tells_on (done ++ r ∷ []) more now (subst (λ rs. Tells now rs) (sym (map-append typed done (r ∷ []))) (tells_more kept (recs done) 0 (typed r) h)) in
    (x.0, subst (λ rs. Tells x.0 (recs rs)) (append_assoc done (r ∷ []) more) x.1)

least_computed : (fs : List Fault) (f : Fault) → IsLeast fs f → least fs ≡ Some f
least_computed [] f h = absurd (nothing_least f h)
least_computed (g ∷ gs) f h = ap (λ x. Some x) (least_unique (g ∷ gs) (least_or g gs) f (least_is_least g gs) h)

-- the bytes present of the record, and those after it
parts_of : (bytes : List ℕ) → (behind : List ℕ) × (bytes ≡ present bytes ++ behind)
parts_of [] = ([], refl)
parts_of (t ∷ []) = ([], refl)
parts_of (t ∷ lo ∷ []) = ([], refl)
parts_of (t ∷ lo ∷ hi ∷ bytes) = (drop (lo + 256 * hi) bytes, ap (λ bs. t ∷ lo ∷ hi ∷ bs) (sym (take-append-drop (lo + 256 * hi) bytes)))

lasts : (f : Fault) → is_end_of_input f.reason ≡ false → lasting (Some f) ≡ Some f
lasts f n = ap (λ b. cond b None (Some f)) n

-- a prefix of some bytes with the same first fault, which ends where it is decided
pub record Decides (profile : Profile) (limits : Limits) (before : List Raw) (bytes : List ℕ) (f : Fault) : Type 0 where
  pub part : List ℕ
  pub behind : List ℕ
  pub parts : bytes ≡ part ++ behind
  pub judged : EndsWhereJudged f.reason part
  pub least_of : IsLeast (faults_after profile limits before (present part)) f

module _ (profile : Profile) (limits : Limits) (before : List Raw) where
  abbrev first : Bool
  first = is_empty before

  frame_least : (bytes : List ℕ) (f : Fault) → frame_fault first bytes ≡ Some f → IsLeast (faults_after profile limits before bytes) f
  frame_least bytes f e = least_some _ f (first_some (frame_steps first bytes) (record_steps profile limits before (front_record bytes)) f e)

  -- the type byte decides
  by_type : (bytes : List ℕ) (f : Fault) (q : Reason × ℕ) → is_end_of_input f.reason ≡ false → type_fault (present bytes) ≡ Some q → found q ≡ f → Decides profile limits before bytes f
  unfolding type_fault
  by_type [] f q n h is = absurd (none_some q h)
  by_type (t ∷ bytes) f q n h is =
      let alone : type_fault (t ∷ []) ≡ Some q = type_same (t ∷ bytes) ∙ h in
      let stands : standing_fault first (t ∷ []) ≡ Some f
      = standing_is first (t ∷ []) ∙ ap (λ o. option_map found (option_or o (whole_fault first (t ∷ [])))) alone ∙ ap (λ x. Some x) is in
      record {
        part = t ∷ [];
        behind = bytes;
        parts = refl;
        judged = subst (λ r. EndsWhereJudged r (t ∷ [])) (ap (λ (x : Fault). x.reason) is) (type_ends t q alone);
        least_of = frame_least (t ∷ []) f (lasting_some (frame_fault first (t ∷ [])) f stands);
      }

  -- the record to its end does
  to_end : (bytes : List ℕ) (f : Fault) → EndsWhereJudged f.reason (present bytes) → IsLeast (faults_after profile limits before (present bytes)) f → Decides profile limits before bytes f
  to_end bytes f h m =
      let x = parts_of bytes in
      record {
        part = present bytes;
        behind = x.0;
        parts = x.1;
        judged = h;
        least_of = subst (λ bs. IsLeast (faults_after profile limits before bs) f) (sym (present_twice bytes)) m;
      }

  found_some : (o : Option (Reason × ℕ)) (f : Fault) → option_map found o ≡ Some f → (q : Reason × ℕ) × (o ≡ Some q) × (found q ≡ f)
  found_some None f e = absurd (none_some f e)
  found_some (Some q) f e = (q, refl, some_same (found q) f e)

  by_framing : (bytes : List ℕ) (f : Fault) → is_end_of_input f.reason ≡ false → frame_fault first (present bytes) ≡ Some f → (o : Option (Reason × ℕ)) → type_fault (present bytes) ≡ o → Decides profile limits before bytes f
  by_framing bytes f n e (Some q) h =
      let s : option_map found (option_or (type_fault (present bytes)) (whole_fault first (present bytes))) ≡ Some f = sym (standing_is first (present bytes)) ∙ ap lasting e ∙ lasts f n in
      let is : found q ≡ f = some_same (found q) f (ap (λ o. option_map found (option_or o (whole_fault first (present bytes)))) (sym h) ∙ s) in
      by_type bytes f q n h is
  by_framing bytes f n e None h =
      let s : option_map found (option_or (type_fault (present bytes)) (whole_fault first (present bytes))) ≡ Some f = sym (standing_is first (present bytes)) ∙ ap lasting e ∙ lasts f n in
      let x = found_some (whole_fault first (present bytes)) f (ap (λ o. option_map found (option_or o (whole_fault first (present bytes)))) (sym h) ∙ s) in
      to_end bytes f (subst (λ r. EndsWhereJudged r (present bytes)) (ap (λ (y : Fault). y.reason) x.2) (whole_ends first (present bytes) x.0 (present_twice bytes) x.1)) (frame_least (present bytes) f e)

  by_record : (bytes : List ℕ) (f : Fault) → AreBytes bytes → frame_fault first (present bytes) ≡ None → IsLeast (faults_after profile limits before (present bytes)) f → Decides profile limits before bytes f
  by_record bytes f small e m =
      let now : List ℕ = present bytes in
      let clean = clean_steps first now e in
      let k = tells_on [] before nothing_kept nothing_tells in
      let steps_are : faults_after profile limits before now ≡ first_step (record_steps profile limits before (front_record now)) = first_none (frame_steps first now) (record_steps profile limits before (front_record now)) clean in
      let here : raw_fault profile limits k.0 (front_record now).kind (front_record now).body ≡ Some f
      = raw_law profile limits k.0 before k.1 (front_record now) ∙ ap least (sym steps_are) ∙ least_computed (faults_after profile limits before now) f m in
      let all_small : AreBytes (front_record now).body = body_small now (AreBytes-front now (parts_of bytes).0 (subst AreBytes (parts_of bytes).1 small)) in
      let inner = inner_of f (subst FaultInner here (raw_inner k.0 profile limits (front_record now).kind (front_record now).body all_small)) in
      to_end bytes f (inner_ends f.reason now inner (whole_length now (framed_of first now clean).whole (present_twice bytes))) m

  by_fault : (bytes : List ℕ) (f : Fault) → AreBytes bytes → is_end_of_input f.reason ≡ false → IsLeast (faults_after profile limits before (present bytes)) f
      → (o : Option Fault) → frame_fault first (present bytes) ≡ o → Decides profile limits before bytes f
  by_fault bytes f small n m None e = by_record bytes f small e m
  by_fault bytes f small n m (Some g) e =
      let same : g ≡ f = least_unique (faults_after profile limits before (present bytes)) g f (frame_least (present bytes) g e) m in
      by_framing bytes f n (e ∙ ap (λ x. Some x) same) (type_fault (present bytes)) refl

  pub decides : (bytes : List ℕ) (f : Fault) → AreBytes bytes → is_end_of_input f.reason ≡ false → IsLeast (faults_after profile limits before (present bytes)) f → Decides profile limits before bytes f
  decides bytes f small n m = by_fault bytes f small n m (frame_fault first (present bytes)) refl

-- EndsWhereJudged tells one length.
stated_front : (p x : List ℕ) → length p ≡ 3 + stated_length p → stated_length (p ++ x) ≡ stated_length p
stated_front [] x h = absurd (omega (arith, h))
stated_front (t ∷ []) x h = absurd (omega (arith, h))
stated_front (t ∷ lo ∷ []) x h = absurd (omega (arith, h))
stated_front (t ∷ lo ∷ hi ∷ p) x h = refl

one_length : (why : Reason) (p x : List ℕ) → EndsWhereJudged why p → EndsWhereJudged why (p ++ x) → length x ≡ 0
one_length reason.NoEnd p x h k = absurd h
one_length reason.Cut p x h k = absurd h
one_length reason.UnknownType p x h k = let e = length-append p x in omega (arith, h, k, e)
one_length reason.UnsupportedType p x h k = let e = length-append p x in omega (arith, h, k, e)
one_length reason.EmptyRecord p x h k = let e = length-append p x in omega (arith, h, k, e)
one_length _ p x h k = let e = length-append p x in let s = stated_front p x h in omega (arith, h, k, e, s)

-- The end of the input decides nothing else.
judged_lasts : (why : Reason) (part : List ℕ) → EndsWhereJudged why part → is_end_of_input why ≡ false
judged_lasts reason.NoEnd part h = absurd h
judged_lasts reason.Cut part h = absurd h
judged_lasts _ part h = refl

not_no_end : (why : Reason) → is_end_of_input why ≡ false → why ≢ reason.NoEnd
not_no_end why n e = clash (is_end_of_input why) (ap is_end_of_input e) n

not_cut : (why : Reason) → is_end_of_input why ≡ false → why ≢ reason.Cut
not_cut why n e = clash (is_end_of_input why) (ap is_end_of_input e) n

last_none : (b : ℕ) (rest back : List ℕ) → length (rest ++ b ∷ back) ≡ 0 → ⊥
last_none b rest back h = let e = length-append rest (b ∷ back) in omega (arith, h, e)

-- the prefix of an input that decides its refusal, after the records before
record Front (profile : Profile) (limits : Limits) (input : List ℕ) (why : Reason) (at : Place) : Type 0 where
  before : List ℕ
  part : List ℕ
  behind : List ℕ
  spelled : input ≡ (before ++ part) ++ behind
  starts : at.start ≡ length before
  judged : EndsWhereJudged why part
  refused : IsRefused profile limits (before ++ part) why at

module _ (profile : Profile) (limits : Limits) (input : List ℕ) (why : Reason) (at : Place) (small : AreBytes input) (r : IsRefused profile limits input why at) where
  front_of : is_end_of_input why ≡ false → Front profile limits input why at
  front_of n =
      let o = refused-read profile limits input why at small r in
      let flat : List ℕ = flat_map raw_bytes o.before in
      let parts : AreBytes (flat ++ o.rest) = subst AreBytes o.spelled small in
      let rest_small : AreBytes o.rest = AreBytes-back flat o.rest parts in
      let d : Decides profile limits o.before o.rest o.found = decides profile limits o.before o.rest o.found rest_small (ap is_end_of_input (sym o.named) ∙ n) o.least in
      let part_small : AreBytes d.part = AreBytes-front d.part d.behind (subst AreBytes d.parts rest_small) in
      record {
        before = flat;
        part = d.part;
        behind = d.behind;
        spelled = o.spelled ∙ ap (λ x. flat ++ x) d.parts ∙ sym (append_assoc flat d.part d.behind);
        starts = ap (λ (p : Place). p.start) o.there;
        judged = subst (λ x. EndsWhereJudged x d.part) (sym o.named) d.judged;
        refused = refused-first profile limits (flat ++ d.part) why at
            (record { before = o.before; rest = d.part; found = o.found; spelled = refl; records = o.records; running = o.running; sound = o.sound; least = d.least_of; named = o.named; there = o.there })
            (bodies_of o.before o.rest parts) (λ k. body_small (present d.part) (present_small d.part part_small));
      }

  -- from the record's start on
  from_start : (before part : List ℕ) → at.start ≡ length before → drop at.start (before ++ part) ≡ part
  from_start before part e = ap (λ n. drop n (before ++ part)) e ∙ drop_at before part (length before) refl

  pub decided_by_front : is_end_of_input why ≡ false → (read : List ℕ) × (rest : List ℕ) × (input ≡ read ++ rest) × EndsWhereJudged why (drop at.start read)
      × ((more : List ℕ) → IsRefused profile limits (read ++ more) why at)
  decided_by_front n =
      let x = front_of n in (
        x.before ++ x.part,
        x.behind,
        x.spelled,
        subst (EndsWhereJudged why) (sym (from_start x.before x.part x.starts)) x.judged,
        λ more. refusal_stays profile limits (x.before ++ x.part) more why at (not_no_end why n) (not_cut why n) x.refused,
      )

  -- bytes up to which nothing was refused
  behind_none : (rest : List ℕ) → (read : List ℕ) → input ≡ read ++ rest → NoneShorter profile limits input → EndsWhereJudged why (drop at.start read) → IsRefused profile limits read why at
      → is_end_of_input why ≡ false → EndsWhereJudged why (drop at.start input)
  behind_none [] read e none j refused n = subst (λ x. EndsWhereJudged why (drop at.start x)) (sym (e ∙ append-nil read)) j
  behind_none (b ∷ rest) read e none j refused n = absurd (clash (is_end_of_input why) (no_other profile limits read (none read rest b e) why at refused) n)

  all_read : is_end_of_input why ≡ false → NoneShorter profile limits input → EndsWhereJudged why (drop at.start input)
  all_read n none =
      let x = front_of n in
      behind_none x.behind (x.before ++ x.part) x.spelled none (subst (EndsWhereJudged why) (sym (from_start x.before x.part x.starts)) x.judged) x.refused n

-- no shorter prefix has this refusal
module _ (profile : Profile) (limits : Limits) (input : List ℕ) (why : Reason) (at : Place) (small : AreBytes input) (r : IsRefused profile limits input why at) where
  same_length : (front back : List ℕ) (b : ℕ) → input ≡ front ++ b ∷ back → Front profile limits front why at → EndsWhereJudged why (drop at.start input) → ⊥
  same_length front back b e x j =
      let more : List ℕ = x.behind ++ b ∷ back in
      let whole : input ≡ x.before ++ (x.part ++ more)
      = e ∙ ap (λ y. y ++ b ∷ back) x.spelled ∙ append_assoc (x.before ++ x.part) x.behind (b ∷ back) ∙ append_assoc x.before x.part more in
      let there : drop at.start input ≡ x.part ++ more
      = ap (λ y. drop at.start y) whole ∙ ap (λ n. drop n (x.before ++ (x.part ++ more))) x.starts ∙ drop_at x.before (x.part ++ more) (length x.before) refl in
      last_none b x.behind back (one_length why x.part more x.judged (subst (EndsWhereJudged why) there j))

  none_shorter : EndsWhereJudged why (drop at.start input) → NoneShorter profile limits input
  none_shorter j front back b e = by_verdict (either profile limits front front_small)
    where
      front_small : AreBytes front
      front_small = AreBytes-front front (b ∷ back) (subst AreBytes e small)

      not_accepted : (records : List Raw) → IsAccepted profile limits front records → ⊥
      not_accepted records a =
          let whole : IsAccepted profile limits input records
          = record { bytes = a.bytes; rest = a.rest ++ b ∷ back; spelled = e ∙ ap (λ y. y ++ b ∷ back) a.spelled ∙ append_assoc a.bytes a.rest (b ∷ back); well_formed = a.well_formed } in
          never_both profile limits input records why at whole r

      by_reason : (other : Reason) (there : Place) → IsRefused profile limits front other there → (b' : Bool) → is_end_of_input other ≡ b' → AreSoundSoFar profile limits front
      by_reason other there refused true t = inr (other, there, t, refused)
      by_reason other there refused false n =
          let stays : IsRefused profile limits input other there
          = subst (λ y. IsRefused profile limits y other there) (sym e) (refusal_stays profile limits front (b ∷ back) other there (not_no_end other n) (not_cut other n) refused) in
          let same = refused_once profile limits input other why there at stays r in
          let here : IsRefused profile limits front why at = subst (λ y. IsRefused profile limits front why y) same.1 (subst (λ y. IsRefused profile limits front y there) same.0 refused) in
          absurd (same_length front back b e (front_of profile limits front why at front_small here (ap is_end_of_input (sym same.0) ∙ n)) j)

      by_verdict : ((records : List Raw) × IsAccepted profile limits front records) ⊎ ((other : Reason) × (there : Place) × IsRefused profile limits front other there) → AreSoundSoFar profile limits front
      by_verdict (inl x) = absurd (not_accepted x.0 x.1)
      by_verdict (inr x) = by_reason x.0 x.1 x.2 (is_end_of_input x.0) refl

  pub ends_exactly : EndsWhereJudged why (drop at.start input) ↔ ((is_end_of_input why ≡ false) × NoneShorter profile limits input)
  ends_exactly = (λ j. (judged_lasts why (drop at.start input) j, none_shorter j), λ h. all_read profile limits input why at small r h.0 h.1)

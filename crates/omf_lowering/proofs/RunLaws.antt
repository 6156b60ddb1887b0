-- The walk over an input gives its records, or its first fault.
use Rattle.std.proofs.Common.{◌≡◌, inl, inr, Result, Ok, Err, ℕ, suc, ◌+◌, ◌*◌, ◌/◌, ◌%◌, ◌<◌, ◌≤◌, Bool, true, false, cond, ltb, eqb, List, [], ◌∷◌, ◌++◌, Option, Some, None, refl, sym, ap, subst, ◌∙◌, length, arith, length-append, append_assoc, append-nil}
use Rattle.std.specs.Prelude.{IsTrue, not, All, flat_map}
use Rattle.std.specs.Option.{option_or}
use Rattle.std.proofs.lemmas.Bool.{le-ltb, lt-ltb, ne_eqb}
use Rattle.std.proofs.lemmas.Grind.{flat_map-append}
use Rattle.std.proofs.lemmas.List.{append_cancel_left}
use Rattle.std.proofs.lemmas.List.Elements.{All-head, All-tail}
use Rattle.omf_frame.specs.Bytes.{with_before}
use Rattle.omf_frame.specs.Fault.{Fault}
use Rattle.omf_frame.specs.Framing.{Raw, raw_bytes, after_front, front_record, is_end}
use Rattle.omf_frame.specs.declared.fault.Place.{Place}
use Rattle.omf_frame.specs.declared.fault.Reason.{Reason}
use Rattle.omf_frame.specs.declared.fault.Reason.TheVariants as reason
use Rattle.omf_frame.proofs.FramingLaws.{stated}
use Rattle.omf_records.specs.Layout.{fault}
use Rattle.omf_check.specs.Rules.{item_limit}
use Rattle.omf_lowering.specs.Inner.Run.{Walked, Done, Stopped, decided, walked}
use Rattle.omf_lowering.specs.Lowering.{BeginsWith, HasFault, HasFixupFault, IsLowered, IsNotUnrolled, IsOrigin, IsRefused, IsWideRecord, fault_at, faults_in, lowered_records, lowering_fault}
use Rattle.omf_lowering.specs.Unrolled.{Before as Unrolled, after_records}
use Rattle.omf_lowering.specs.Wide.{framing_fault, is_known, is_right}
use Rattle.omf_lowering.proofs.WideLaws.{after_is, front_is, small}
use Rattle.omf_lowering.proofs.OriginLaws.{origin_once}
use Rattle.omf_lowering.proofs.RollLaws.{fault_once, fault_or_not}

module _ (r : Raw) (wide : IsWideRecord r) (rest : List ℕ) where
  tests : Bool → Bool → Bool → Bool → Fault → Fault → Fault → Fault → Option Fault
  tests known cut empty right f g h i = cond known (cond cut (Some f) (cond empty (Some g) (cond right None (Some h)))) (Some i)

  all_pass : (known cut empty right : Bool) (f g h i : Fault) → known ≡ true → cut ≡ false → empty ≡ false → right ≡ true → tests known cut empty right f g h i ≡ None
  unfolding tests
  all_pass true false false true f g h i a b c d = refl
  all_pass true false false false f g h i a b c d = absurd cc
  all_pass true false true right f g h i a b c d = absurd cc
  all_pass true true empty right f g h i a b c d = absurd cc
  all_pass false cut empty right f g h i a b c d = absurd cc

  framed : framing_fault (raw_bytes r ++ rest) ≡ None
  unfolding tests
  framed =
      let bytes : List ℕ = (r.body ++ r.checksum ∷ []) ++ rest in
      let n : ℕ = (length r.body + 1) % 256 + 256 * ((length r.body + 1) / 256) in
      let is : n ≡ length r.body + 1 = stated r (small r wide rest) in
      let size : length bytes ≡ length r.body + 1 + length rest = omega (arith, length-append (r.body ++ r.checksum ∷ []) rest, length-append r.body (r.checksum ∷ [])) in
      let long : ltb (length bytes) n ≡ false = le-ltb (length bytes) n (omega (arith, is, size)) in
      let some : eqb n 0 ≡ false = ne_eqb n 0 (λ z. omega (arith, z, is)) in
      let right : is_right (front_record (raw_bytes r ++ rest)) ≡ true = ap is_right (front_is r wide rest) ∙ wide.right in
      all_pass (is_known r.kind) (ltb (length bytes) n) (eqb n 0) (is_right (front_record (raw_bytes r ++ rest))) _ _ _ _ wide.known long some right

  sound_at : (before : List Raw) → length before < item_limit → lowering_fault before r ≡ None → fault_at before (raw_bytes r ++ rest) ≡ None
  sound_at before few sound =
      let below : ltb (length before) item_limit ≡ true = lt-ltb (length before) item_limit few in
      ap (λ b. cond b (option_or (framing_fault (raw_bytes r ++ rest)) (lowering_fault before (front_record (raw_bytes r ++ rest)))) (Some (fault 0 reason.TooMany))) below
      ∙ ap (λ f. option_or f (lowering_fault before (front_record (raw_bytes r ++ rest)))) framed
      ∙ ap (lowering_fault before) (front_is r wide rest) ∙ sound

nothing_in : (f : Option Fault) (more : List Fault) → faults_in f ++ more ≡ [] → (f ≡ None) × (more ≡ [])
nothing_in None more e = (refl, e)
nothing_in (Some f) more e = absurd cc

not_true : (b : Bool) → IsTrue (not b) → b ≡ false
not_true true e = absurd cc
not_true false e = refl

one_more : (a n : ℕ) → suc a + n ≡ suc (a + n)
one_more a n = omega arith

zero_more : (n : ℕ) → 0 + n ≡ n
zero_more n = omega arith

-- the walk passes records without a fault that are no MODEND
walk : (xs : List Raw) (n : ℕ) (before : List Raw) (rest : List ℕ) → All IsWideRecord xs → with_before (λ b r. faults_in (lowering_fault b r)) before xs ≡ [] → All (λ r. IsTrue (not (is_end r.kind))) xs
    → length before + length xs ≤ item_limit → walked (length xs + n) before (flat_map raw_bytes xs ++ rest) ≡ walked n (before ++ xs) rest
walk [] n before rest each sound none few = ap (λ k. walked k before rest) (zero_more n) ∙ ap (λ b. walked n b rest) (sym (append-nil before))
walk (x ∷ xs) n before rest each sound none few =
    let wide : IsWideRecord x = All-head IsWideRecord x xs each in
    let left : List ℕ = flat_map raw_bytes xs ++ rest in
    let s = nothing_in (lowering_fault before x) _ sound in
    let here = sound_at x wide left before (omega arith) s.0 in
    let front : front_record (raw_bytes x ++ left) ≡ x = front_is x wide left in
    let open_still : is_end (front_record (raw_bytes x ++ left)).kind ≡ false = ap (λ (r : Raw). is_end r.kind) front ∙ not_true _ (All-head (λ r. IsTrue (not (is_end r.kind))) x xs none) in
    ap (λ k. walked k before (flat_map raw_bytes (x ∷ xs) ++ rest)) (one_more (length xs) n)
    ∙ ap (walked (suc (length xs + n)) before) (append_assoc (raw_bytes x) (flat_map raw_bytes xs) rest)
    ∙ step (fault_at before (raw_bytes x ++ left)) (is_end (front_record (raw_bytes x ++ left)).kind) before _ _ here open_still
    ∙ ap (λ r. walked (length xs + n) (before ++ r ∷ []) (after_front (raw_bytes x ++ left))) front
    ∙ ap (walked (length xs + n) (before ++ x ∷ [])) (after_is x wide left)
    ∙ walk xs n (before ++ x ∷ []) rest (All-tail IsWideRecord x xs each) s.1 (All-tail (λ r. IsTrue (not (is_end r.kind))) x xs none) (omega (arith, few, length-append before (x ∷ [])))
    ∙ ap (λ b. walked n b rest) (append_assoc before (x ∷ []) xs)
  where
    step : (o : Option Fault) (b : Bool) (before all : List Raw) (others : Walked) → o ≡ None → b ≡ false → decided o b before all others ≡ others
    step None false before all others e f = refl
    step None true before all others e f = absurd cc
    step (Some g) b before all others e f = absurd cc

walk_begun : (input rest : List ℕ) (before : List Raw) (n : ℕ) → BeginsWith input before rest → walked (length before + n) [] input ≡ walked n before rest
walk_begun input rest before n b = ap (walked (length before + n) []) b.spelled ∙ walk before n [] rest b.each b.sound b.no_end (subst (λ k. k ≤ item_limit) (sym (zero_more (length before))) b.count)

-- an input begins with records up to a MODEND
record IsEnded (input : List ℕ) (before : List Raw) (end : Raw) (rest : List ℕ) : Type 0 where
  begins : BeginsWith input before (raw_bytes end ++ rest)
  few : length before < item_limit
  last : IsWideRecord end
  ends : IsTrue (is_end end.kind)
  sound : lowering_fault before end ≡ None

ended_by : (input out rest : List ℕ) (l : IsLowered input out rest) → IsEnded input l.before l.end rest
ended_by input out rest l = record { begins = l.begins; few = l.few; last = l.last; ends = l.ends; sound = l.sound }

ended_too : (input : List ℕ) (why : Reason) (at : Place) (l : IsNotUnrolled input why at) → IsEnded input l.before l.end l.rest
ended_too input why at l = record { begins = l.begins; few = l.few; last = l.last; ends = l.ends; sound = l.sound }

walk_ended : (input : List ℕ) (before : List Raw) (end : Raw) (rest : List ℕ) → IsEnded input before end rest → (n : ℕ) → walked (length before + suc n) [] input ≡ Done (before ++ end ∷ [])
walk_ended input before end rest l n =
    let bytes : List ℕ = raw_bytes end ++ rest in
    let front : front_record bytes ≡ end = front_is end l.last rest in
    walk_begun input bytes before (suc n) l.begins
    ∙ step (fault_at before bytes) (is_end (front_record bytes).kind) before _ _ (sound_at end l.last rest before l.few l.sound) (ap (λ (r : Raw). is_end r.kind) front ∙ l.ends)
    ∙ ap (λ r. Done (before ++ r ∷ [])) front
  where
    step : (o : Option Fault) (b : Bool) (before all : List Raw) (others : Walked) → o ≡ None → b ≡ true → decided o b before all others ≡ Done all
    step None true before all others e f = refl
    step None false before all others e f = absurd cc
    step (Some g) b before all others e f = absurd cc

walk_refused : (input : List ℕ) (why : Reason) (at : Place) (l : HasFault input why at) (n : ℕ) → walked (length l.before + suc n) [] input ≡ Stopped l.before (record { within = at.within; reason = why })
walk_refused input why at l n =
    walk_begun input l.rest l.before (suc n) l.begins
    ∙ ap (λ o. decided o (is_end (front_record l.rest).kind) l.before (l.before ++ front_record l.rest ∷ []) (walked n (l.before ++ front_record l.rest ∷ []) (after_front l.rest))) l.fault

same_sum : (a b : ℕ) → a + suc b ≡ b + suc a
same_sum a b = omega arith

done_once : (xs ys : List Raw) → Done xs ≡ Done ys → xs ≡ ys
done_once xs ys e = cc

same_records : (input : List ℕ) (xs ys : List Raw) (x y : Raw) (rest other : List ℕ) → IsEnded input xs x rest → IsEnded input ys y other → xs ++ x ∷ [] ≡ ys ++ y ∷ []
same_records input xs ys x y rest other k l =
    done_once (xs ++ x ∷ []) (ys ++ y ∷ [])
    (sym (walk_ended input xs x rest k (length ys)) ∙ ap (λ n. walked n [] input) (same_sum (length xs) (length ys)) ∙ walk_ended input ys y other l (length xs))

not_both : (input : List ℕ) (xs : List Raw) (x : Raw) (rest : List ℕ) (why : Reason) (at : Place) → IsEnded input xs x rest → HasFault input why at → ⊥
not_both input xs x rest why at k l =
    let same : Done (xs ++ x ∷ []) ≡ Stopped l.before (record { within = at.within; reason = why }) =
    sym (walk_ended input xs x rest k (length l.before)) ∙ ap (λ n. walked n [] input) (same_sum (length xs) (length l.before)) ∙ walk_refused input why at l (length xs) in
    absurd cc

-- all bytes of an input, with those of the MODEND beside those of the records before it
all_bytes : (input : List ℕ) (before : List Raw) (end : Raw) (rest : List ℕ) → IsEnded input before end rest → flat_map raw_bytes (before ++ end ∷ []) ++ rest ≡ input
all_bytes input before end rest l =
    ap (λ b. b ++ rest) (flat_map-append raw_bytes before (end ∷ []) ∙ ap (λ e. flat_map raw_bytes before ++ e) (append-nil (raw_bytes end)))
    ∙ append_assoc (flat_map raw_bytes before) (raw_bytes end) rest ∙ sym l.begins.spelled

same_ok : (q : Result Unrolled Fault) (a b : Unrolled) → q ≡ Ok a → q ≡ Ok b → a ≡ b
same_ok (Ok u) a b e f = cc
same_ok (Err g) a b e f = absurd cc

pub lowered_once : (input a b rest other : List ℕ) → IsLowered input a rest → IsLowered input b other → (a ≡ b) × (rest ≡ other)
lowered_once input a b rest other k l =
    let records : k.before ++ k.end ∷ [] ≡ l.before ++ l.end ∷ [] = same_records input k.before l.before k.end l.end rest other (ended_by input a rest k) (ended_by input b other l) in
    let after : k.after ≡ l.after = same_ok (after_records (lowered_records (k.before ++ k.end ∷ []))) k.after l.after k.unrolled (ap (λ rs. after_records (lowered_records rs)) records ∙ l.unrolled) in (
      k.lowered ∙ ap (λ (u : Unrolled). flat_map raw_bytes u.records) after ∙ sym l.lowered,
      append_cancel_left (flat_map raw_bytes (k.before ++ k.end ∷ [])) rest other
          (all_bytes input k.before k.end rest (ended_by input a rest k) ∙ sym (all_bytes input l.before l.end other (ended_by input b other l)) ∙ ap (λ rs. flat_map raw_bytes rs ++ other) (sym records)),
    )

-- a module has at least one byte
pub rest_is_shorter : (input out rest : List ℕ) → IsLowered input out rest → length rest < length input
rest_is_shorter input out rest l =
    let size = ap length l.begins.spelled in
    omega (arith, size, length-append (flat_map raw_bytes l.before) (raw_bytes l.end ++ rest), length-append (raw_bytes l.end) rest)

pub never_both : (input out rest : List ℕ) (why : Reason) (at : Place) → IsLowered input out rest → IsRefused input why at → ⊥
never_both input out rest why at k (inl l) = not_both input k.before k.end rest why at (ended_by input out rest k) l
never_both input out rest why at k (inr l) =
    let records : k.before ++ k.end ∷ [] ≡ l.before ++ l.end ∷ [] = same_records input k.before l.before k.end l.end rest l.rest (ended_by input out rest k) (ended_too input why at l) in
    fault_or_not (lowered_records (l.before ++ l.end ∷ [])) l.number (record { within = at.within; reason = why }) k.after l.fault (ap (λ rs. after_records (lowered_records rs)) (sym records) ∙ k.unrolled)

same_place : (p q : Place) → p.number ≡ q.number → p.start ≡ q.start → p.within ≡ q.within → p ≡ q
same_place p q number start within i = record { number = number i; start = start i; within = within i }

own_once : (input : List ℕ) (why other : Reason) (at there : Place) → HasFault input why at → HasFault input other there → (why ≡ other) × (at ≡ there)
own_once input why other at there k l =
    let same : Stopped k.before (record { within = at.within; reason = why }) ≡ Stopped l.before (record { within = there.within; reason = other }) =
    sym (walk_refused input why at k (length l.before)) ∙ ap (λ n. walked n [] input) (same_sum (length k.before) (length l.before)) ∙ walk_refused input other there l (length k.before) in
    let before : k.before ≡ l.before = cc in
    let given : fault at.within why ≡ fault there.within other = cc in
    let number : at.number ≡ there.number = k.number ∙ ap length before ∙ sym l.number in
    let start : at.start ≡ there.start = k.start ∙ ap (λ rs. length (flat_map raw_bytes rs)) before ∙ sym l.start in
    let within : at.within ≡ there.within = ap (λ (f : Fault). f.within) given in
    (ap (λ (f : Fault). f.reason) given, same_place at there number start within)

fixup_once : (input : List ℕ) (why other : Reason) (at there : Place) → IsNotUnrolled input why at → IsNotUnrolled input other there → (why ≡ other) × (at ≡ there)
fixup_once input why other at there k l =
    let records : k.before ++ k.end ∷ [] ≡ l.before ++ l.end ∷ [] = same_records input k.before l.before k.end l.end k.rest l.rest (ended_too input why at k) (ended_too input other there l) in
    let first = subst (λ rs. HasFixupFault (lowered_records rs) k.number (record { within = at.within; reason = why })) records k.fault in
    let same = fault_once (lowered_records (l.before ++ l.end ∷ [])) k.number l.number (record { within = at.within; reason = why }) (record { within = there.within; reason = other }) first l.fault in
    let origin : (at.number ≡ there.number) × (at.start ≡ there.start) = origin_once input l.number at there (subst (λ n. IsOrigin input n at) same.0 k.origin) l.origin in
    (ap (λ (f : Fault). f.reason) same.1, same_place at there origin.0 origin.1 (ap (λ (f : Fault). f.within) same.1))

pub refused_once : (input : List ℕ) (why other : Reason) (at there : Place) → IsRefused input why at → IsRefused input other there → (why ≡ other) × (at ≡ there)
refused_once input why other at there (inl k) (inl l) = own_once input why other at there k l
refused_once input why other at there (inl k) (inr l) = absurd (not_both input l.before l.end l.rest why at (ended_too input other there l) k)
refused_once input why other at there (inr k) (inl l) = absurd (not_both input k.before k.end k.rest other there (ended_too input why at k) l)
refused_once input why other at there (inr k) (inr l) = fixup_once input why other at there k l

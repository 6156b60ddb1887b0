-- An accepted module is its own lowering.
use Rattle.std.proofs.Common.{◌≡◌, ℕ, ◌+◌, ◌<◌, inl, inr, Bool, true, false, cond, List, [], ◌∷◌, ◌++◌, refl, sym, ap, subst, ◌∙◌, length, append_assoc, append-nil, arith, None, Result, Ok, Err}
use Rattle.std.specs.Prelude.{IsTrue, not, All, flat_map, fold, Option, Some, ◌&&◌, ◌==◌}
use Rattle.std.specs.List.{list_all, list_any}
use Rattle.std.specs.Option.{option_or}
use Rattle.std.proofs.lemmas.Bool.{eqb-true, eq-eqb, or_cases, or_left, or_right, ltb-true}
use Rattle.std.proofs.lemmas.Grind.{flat_map-append}
use Rattle.std.proofs.lemmas.List.Elements.{All-append, All-head, All-tail, All-cons, All-nil}
use Rattle.omf_frame.specs.Bytes.{with_before}
use Rattle.omf_frame.specs.Fault.{Fault}
use Rattle.omf_frame.specs.Framing.{Raw, IsRecord, is_taken, raw_bytes}
use Rattle.omf_frame.proofs.ModuleLaws.{all_one}
use Rattle.omf_frame.specs.Types.{is_treated, row, types_treated}
use Rattle.omf_frame.specs.declared.kinds.Treatment.TheVariants.{Read, Carried}
use Rattle.omf_records.specs.Inner.LawProofs.{are_typed}
use Rattle.omf_records.specs.Inner.Reading.{fault_list, read_body, typed}
use Rattle.omf_records.specs.Records.{IsTyped}
use Rattle.omf_frame.specs.Fault.{Rule}
use Rattle.omf_frame.specs.declared.fault.Reason.TheVariants as reason
use Rattle.omf_records.specs.Layout.{fault}
use Rattle.omf_records.specs.Values.{Contents, Fixups}
use Rattle.omf_image.specs.declared.limits.Limits.{Limits}
use Rattle.omf_check.specs.Rules.{item_limit, item_places, room}
use Rattle.omf_check.specs.Tables.{item_count}
use Rattle.omf_check.specs.WellFormed.{IsAccepted, recs}
use Rattle.omf_check.specs.declared.profile.Profile.{Profile}
use Rattle.omf_check.proofs.Moving.{item_more}
use Rattle.omf_check.proofs.WellLaws.{well-read}
use Rattle.omf_lowering.specs.Comdats.{given_by, made, new_of}
use Rattle.omf_lowering.specs.Lowering.{Before, IsLowered, IsWideRecord, comdat_of, fault_of, faults_in, growths, growths_in, is_bakpat, is_cextdef, is_comdat, is_nbkpat, is_late, is_segdef, is_vendext, lowered_records, lowering_fault, named_fault, patches_in, pieces, replaced, replacement, so_far, start, thread_fault, up_to_next}
use Rattle.omf_lowering.specs.Patches.{patched}
use Rattle.omf_lowering.specs.Unrolled.{after_records}
use Rattle.omf_lowering.specs.Symbols.{with_linnum}
use Rattle.omf_lowering.proofs.SymbolLaws.{stays}
use Rattle.omf_lowering.specs.Values.{Tables}
use Rattle.omf_lowering.specs.Wide.{is_known, is_right}
use Rattle.omf_lowering.proofs.StayLaws.{Same, accepted_rolled}

-- each of a list of numbers passes a test, so one of them does
by_list : (test : ℕ → Bool) (ks : List ℕ) (k : ℕ) → list_all test ks ≡ true → list_any (λ n. n == k) ks ≡ true → test k ≡ true
by_list test [] k all one = absurd cc
by_list test (n ∷ ks) k all one =
    let h = both (test n) (list_all test ks) all in
    elim (or_cases (n == k) (list_any (λ m. m == k) ks) one) [
      | inl e ↦ subst (λ m. test m ≡ true) (eqb-true n k e) h.0
      | inr e ↦ by_list test ks k h.1 e
    ]
  where
    both : (a b : Bool) → (a && b) ≡ true → (a ≡ true) × (b ≡ true)
    both true b e = (refl, e)
    both false b e = absurd cc

-- a type that this profile reads or carries is known, and none of CEXTDEF, BAKPAT, NBKPAT, COMDAT, VENDEXT
abbrev is_plain : ℕ → Bool
is_plain k = is_known k && (not (is_cextdef k) && (not (is_bakpat k) && (not (is_nbkpat k) && (not (is_comdat k) && not (is_vendext k)))))

record Plain (k : ℕ) : Type 0 where
  known : is_known k ≡ true
  cextdef : is_cextdef k ≡ false
  bakpat : is_bakpat k ≡ false
  nbkpat : is_nbkpat k ≡ false
  comdat : is_comdat k ≡ false
  vendext : is_vendext k ≡ false

plain_by : (a b c d e f : Bool) → (a && (not b && (not c && (not d && (not e && not f))))) ≡ true → (a ≡ true) × (b ≡ false) × (c ≡ false) × (d ≡ false) × (e ≡ false) × (f ≡ false)
plain_by true false false false false false h = (refl, refl, refl, refl, refl, refl)
plain_by true false false false false true h = absurd cc
plain_by true false false false true f h = absurd cc
plain_by true false false true e f h = absurd cc
plain_by true false true d e f h = absurd cc
plain_by true true c d e f h = absurd cc
plain_by false b c d e f h = absurd cc

plain_is : (k : ℕ) → is_taken k ≡ true → is_plain k ≡ true
plain_is k e =
    elim (or_cases (is_treated Read k) (is_treated Carried k) e) [
      | inl p ↦ by_list is_plain (flat_map (λ t. (row t).bytes) (types_treated Read)) k refl p
      | inr p ↦ by_list is_plain (flat_map (λ t. (row t).bytes) (types_treated Carried)) k refl p
    ]

plain : (k : ℕ) → is_taken k ≡ true → Plain k
plain k e =
    let p = plain_by (is_known k) (is_cextdef k) (is_bakpat k) (is_nbkpat k) (is_comdat k) (is_vendext k) (plain_is k e) in
    record { known = p.0; cextdef = p.1; bakpat = p.2; nbkpat = p.3; comdat = p.4; vendext = p.5 }

fifth : {A : Type 0} (a b c d : Bool) (x y z w v : A) → a ≡ false → b ≡ false → c ≡ false → d ≡ false → cond a x (cond b y (cond c z (cond d w v))) ≡ v
fifth false false false false x y z w v e f g h = refl
fifth true b c d x y z w v e f g h = absurd cc
fifth false true c d x y z w v e f g h = absurd cc
fifth false false true d x y z w v e f g h = absurd cc
fifth false false false true x y z w v e f g h = absurd cc

third : {A : Type 0} (a b : Bool) (x y z : A) → a ≡ false → b ≡ false → cond a x (cond b y z) ≡ z
third false false x y z e f = refl
third true b x y z e f = absurd cc
third false true x y z e f = absurd cc

and_never : (b : Bool) → (b && false) ≡ false
and_never true = refl
and_never false = refl

second : {A : Type 0} (a : Bool) (x y : A) → a ≡ false → cond a x y ≡ y
second false x y e = refl
second true x y e = absurd cc

unfaulty : (t : Tables) (r : Result Contents Fault) → fault_list r ≡ [] → named_fault t [] r ≡ None
unfaulty t (Ok c) e = refl
unfaulty t (Err f) e = absurd cc

abbrev IsTaken : Raw → Type 0
IsTaken r = IsTrue (is_taken r.kind)

abbrev IsSpelled : Raw → Type 0
IsSpelled r = IsTyped (typed r) r.body

kept_one : (b : Before) (r : Raw) → b.instances ≡ [] → IsTaken r → replacement b r ≡ r ∷ []
kept_one b r none taken =
    let p = plain r.kind taken in
    let record_kept : List Raw = with_linnum b.tables b.instances r ∷ [] in
    fifth (is_cextdef r.kind) (is_bakpat r.kind) (is_nbkpat r.kind) (is_comdat r.kind) _ [] [] (given_by (made r.kind) (comdat_of b r)) (cond (is_vendext r.kind) [] record_kept) p.cextdef p.bakpat p.nbkpat p.comdat
    ∙ second (is_vendext r.kind) [] record_kept p.vendext
    ∙ ap (λ i. with_linnum b.tables i r ∷ []) none ∙ ap (λ x. x ∷ []) (stays b.tables r)

no_instance : (b : Before) (x : Raw) → b.instances ≡ [] → IsTaken x → (up_to_next b x).instances ≡ []
no_instance b x none taken = ap (λ l. b.instances ++ l) (second (is_comdat x.kind) (given_by new_of (comdat_of b x)) [] (plain x.kind taken).comdat) ∙ append-nil b.instances ∙ none

kept_all : (b : Before) (xs : List Raw) → b.instances ≡ [] → All IsTaken xs → (fold up_to_next b xs).records ≡ b.records ++ xs
kept_all b [] none taken = sym (append-nil b.records)
kept_all b (x ∷ xs) none taken =
    let first : IsTaken x = All-head IsTaken x xs taken in
    kept_all (up_to_next b x) xs (no_instance b x none first) (All-tail IsTaken x xs taken)
    ∙ ap (λ l. (b.records ++ l) ++ xs) (kept_one b x none first) ∙ append_assoc b.records (x ∷ []) xs

no_instances : (b : Before) (xs : List Raw) → All IsTaken xs → (fold up_to_next b xs).instances ≡ b.instances
no_instances b [] taken = refl
no_instances b (x ∷ xs) taken =
    no_instances (up_to_next b x) xs (All-tail IsTaken x xs taken)
    ∙ ap (λ l. b.instances ++ l) (second (is_comdat x.kind) (given_by new_of (comdat_of b x)) [] (plain x.kind (All-head IsTaken x xs taken)).comdat) ∙ append-nil b.instances

sound_one : (before : List Raw) (r : Raw) → All IsTaken before → IsTaken r → IsSpelled r → lowering_fault before r ≡ None
sound_one before r earlier taken spelled =
    let p = plain r.kind taken in
    let b = so_far before in
    let own : Option Fault = cond (is_taken r.kind) (named_fault b.tables b.instances (read_body r.kind r.body)) None in
    let none : b.instances ≡ [] = no_instances start before earlier in
    let late : is_late b.instances r.kind ≡ false = ap (λ i. is_late i r.kind) none ∙ and_never (is_segdef r.kind) in
    fifth (is_cextdef r.kind) (is_bakpat r.kind) (is_nbkpat r.kind) (is_comdat r.kind) _ _ _ (option_or (fault_of (comdat_of b r)) (thread_fault b)) (cond (is_late b.instances r.kind) (Some (fault 0 reason.UnsupportedType)) own) p.cextdef p.bakpat p.nbkpat p.comdat
    ∙ second (is_late b.instances r.kind) (Some (fault 0 reason.UnsupportedType)) own late
    ∙ ap (λ t. cond t (named_fault b.tables b.instances (read_body r.kind r.body)) None) taken
    ∙ ap (λ i. named_fault b.tables i (read_body r.kind r.body)) none
    ∙ unfaulty b.tables (read_body r.kind r.body) (are_typed r (typed r) refl spelled).1

sound_all : (before xs : List Raw) → All IsTaken before → All IsTaken xs → All IsSpelled xs → with_before (λ b r. faults_in (lowering_fault b r)) before xs ≡ []
sound_all before [] earlier taken spelled = refl
sound_all before (x ∷ xs) earlier taken spelled =
    let first : IsTaken x = All-head IsTaken x xs taken in
    ap (λ f. faults_in f ++ with_before (λ b r. faults_in (lowering_fault b r)) (before ++ x ∷ []) xs) (sound_one before x earlier first (All-head IsSpelled x xs spelled))
    ∙ sound_all (before ++ x ∷ []) xs (All-append IsTaken before (x ∷ []) earlier (all_one IsTaken x first)) (All-tail IsTaken x xs taken) (All-tail IsSpelled x xs spelled)

no_patches : (before xs : List Raw) → All IsTaken xs → with_before (λ b r. patches_in (so_far b) (pieces b) r) before xs ≡ []
no_patches before [] taken = refl
no_patches before (x ∷ xs) taken =
    let p = plain x.kind (All-head IsTaken x xs taken) in
    let none : patches_in (so_far before) (pieces before) x ≡ [] = third (is_bakpat x.kind) (is_nbkpat x.kind) _ _ [] p.bakpat p.nbkpat in
    ap (λ l. l ++ with_before (λ b r. patches_in (so_far b) (pieces b) r) (before ++ x ∷ []) xs) none ∙ no_patches (before ++ x ∷ []) xs (All-tail IsTaken x xs taken)

no_growths : (before xs : List Raw) → All IsTaken xs → with_before (λ b r. growths_in (so_far b) (pieces b) r) before xs ≡ []
no_growths before [] taken = refl
no_growths before (x ∷ xs) taken =
    let p = plain x.kind (All-head IsTaken x xs taken) in
    let none : growths_in (so_far before) (pieces before) x ≡ [] = second (is_comdat x.kind) _ [] p.comdat in
    ap (λ l. l ++ with_before (λ b r. growths_in (so_far b) (pieces b) r) (before ++ x ∷ []) xs) none ∙ no_growths (before ++ x ∷ []) xs (All-tail IsTaken x xs taken)

same_records : (xs : List Raw) → All IsTaken xs → lowered_records xs ≡ xs
same_records xs taken =
    ap (λ ps. patched (patched (replaced xs) ps) (growths xs)) (no_patches [] xs taken)
    ∙ ap (λ gs. patched (replaced xs) gs) (no_growths [] xs taken) ∙ kept_all start xs refl taken

right_one : (r : Raw) → IsRecord r → IsTrue (is_right r)
right_one r (short, inl zero_sum) = or_left (r.checksum == 0) _ (eq-eqb r.checksum 0 zero_sum)
right_one r (short, inr balanced) = or_right (r.checksum == 0) _ (eq-eqb _ 0 balanced)

wide_one : (r : Raw) → IsRecord r → IsTaken r → IsWideRecord r
wide_one r is taken = record { known = (plain r.kind taken).known; right = right_one r is; short = let s = is.0 in omega arith }

wide_all : (xs : List Raw) → All IsRecord xs → All IsTaken xs → All IsWideRecord xs
wide_all [] each taken = All-nil IsWideRecord
wide_all (x ∷ xs) each taken = All-cons IsWideRecord x xs (wide_one x (All-head IsRecord x xs each) (All-head IsTaken x xs taken)) (wide_all xs (All-tail IsRecord x xs each) (All-tail IsTaken x xs taken))

All-front : {A : Type 0} (P : A → Type 0) (xs ys : List A) → All P (xs ++ ys) → All P xs
All-front P [] ys h = All-nil P
All-front P (x ∷ xs) ys h = All-cons P x xs (All-head P x (xs ++ ys) h) (All-front P xs ys (All-tail P x (xs ++ ys) h))

All-last : {A : Type 0} (P : A → Type 0) (xs : List A) (y : A) → All P (xs ++ y ∷ []) → P y
All-last P [] y h = All-head P y [] h
All-last P (x ∷ xs) y h = All-last P xs y (All-tail P x (xs ++ y ∷ []) h)

-- a record that keeps its rules has room among the items
abbrev Holds : Rule → Type 0
Holds r = IsTrue r.holds

room_first : (before at : ℕ) (places : List ℕ) (more : List Rule) → All Holds (room item_limit before (at ∷ places) ++ more) → before + 0 < item_limit
room_first before at places more h = ltb-true (before + 0) item_limit (All-head Holds _ _ h)

has_room : (before : ℕ) (c : Contents) (more : List Rule) → All Holds (room item_limit before (item_places c) ++ more) → before + 0 < item_limit
has_room before (Fixups []) more h = room_first before 0 [] more h
has_room before (Fixups (s ∷ subs)) more h = room_first before s.within _ more h
has_room before _ more h = room_first before 0 [] more h

pub accepted : (profile : Profile) (limits : Limits) (input : List ℕ) (records : List Raw) (a : IsAccepted profile limits input records) → IsLowered input a.bytes a.rest
accepted profile limits input records a =
    let w = well-read profile limits a.bytes records a.well_formed in
    let l = w.framed.last in
    let front = l.0 in
    let end = l.1 in
    let is : records ≡ front ++ end ∷ [] = l.2 in
    let each : All IsRecord (front ++ end ∷ []) = subst (All IsRecord) is w.framed.each in
    let taken : All IsTaken (front ++ end ∷ []) = subst (All IsTaken) is w.framed.types in
    let spelled : All IsSpelled (front ++ end ∷ []) = subst (All IsSpelled) is w.spelled in
    let room : item_count (recs front) + 0 < item_limit = has_room (item_count (recs front)) (typed end).contents _ (w.kept front [] end is) in
    let few : length front < item_limit = omega (arith, room, item_more front) in
    let bytes : a.bytes ≡ flat_map raw_bytes (front ++ end ∷ []) = w.framed.spelled ∙ ap (flat_map raw_bytes) is in
    let parts : flat_map raw_bytes (front ++ end ∷ []) ≡ flat_map raw_bytes front ++ raw_bytes end =
    flat_map-append raw_bytes front (end ∷ []) ∙ ap (λ e. flat_map raw_bytes front ++ e) (append-nil (raw_bytes end)) in
    let rolled : Same profile limits records = accepted_rolled profile limits input records a in
    record {
      before = front;
      end = end;
      begins = record {
        spelled = a.spelled ∙ ap (λ b. b ++ a.rest) (bytes ∙ parts) ∙ append_assoc (flat_map raw_bytes front) (raw_bytes end) a.rest;
        count = omega arith;
        each = wide_all front (All-front IsRecord front (end ∷ []) each) (All-front IsTaken front (end ∷ []) taken);
        sound = sound_all [] front (All-nil IsTaken) (All-front IsTaken front (end ∷ []) taken) (All-front IsSpelled front (end ∷ []) spelled);
        no_end = l.4;
      };
      few = few;
      last = wide_one end (All-last IsRecord front end each) (All-last IsTaken front end taken);
      ends = l.3;
      sound = sound_one front end (All-front IsTaken front (end ∷ []) taken) (All-last IsTaken front end taken) (All-last IsSpelled front end spelled);
      after = rolled.last;
      unrolled = ap after_records (same_records (front ++ end ∷ []) taken ∙ sym is) ∙ rolled.is;
      lowered = bytes ∙ ap (flat_map raw_bytes) (sym is ∙ sym rolled.same);
    }

-- A refusal is that of the faults that are computed, if the input consists of bytes.
use Rattle.std.proofs.Common.{◌≡◌, ℕ, zero, suc, ◌+◌, ◌*◌, ◌-◌, List, [], ◌∷◌, ◌++◌, refl, sym, ap, subst, arith, append_assoc, length}
use Rattle.std.specs.Prelude.{All, flat_map, IsTrue, not}
use Rattle.std.proofs.lemmas.List.Elements.{All-nil}
use Rattle.omf_frame.specs.Bytes.{AreBytes}
use Rattle.omf_frame.specs.Fault.{Fault, IsLeast, first_step}
use Rattle.omf_frame.specs.Framing.{Raw, raw_bytes, IsRecord, is_end, frame_steps, front_record, present}
use Rattle.omf_frame.specs.declared.fault.Place.{Place}
use Rattle.omf_frame.specs.declared.fault.Reason.{Reason}
use Rattle.omf_frame.proofs.FaultLaws.{all_cons}
use Rattle.omf_frame.proofs.FramingLaws.{front_raw}
use Rattle.omf_records.specs.Inner.LawProofs.{decided}
use Rattle.omf_records.specs.Inner.Steps.{AreBytes-front, AreBytes-back, AreBytes-take}
use Rattle.omf_image.specs.declared.limits.Limits.{Limits}
use Rattle.omf_check.specs.Inner.Faults.{faults_after}
use Rattle.omf_check.specs.Inner.Names.{is_empty}
use Rattle.omf_check.specs.Refusal.{IsRefused}
use Rattle.omf_check.specs.declared.profile.Profile.{Profile}
use Rattle.omf_check.proofs.AcceptLaws.{all_left, all_middle}
use Rattle.omf_check.proofs.FirstLaws.{IsSpelled, first-fault, none-first, least-fault, none-computed, clean-spelled}
use Rattle.omf_check.proofs.StepLaws.{sound_of}

-- Bytes of records.
pub bodies_of : (before : List Raw) (rest : List ℕ) → AreBytes (flat_map raw_bytes before ++ rest) → All (λ r. AreBytes r.body) before
bodies_of [] rest h = All-nil (λ r. AreBytes r.body)
bodies_of (r ∷ before) rest h =
    let whole : AreBytes (raw_bytes r ++ (flat_map raw_bytes before ++ rest)) = subst AreBytes (append_assoc (raw_bytes r) (flat_map raw_bytes before) rest) h in
    let body : AreBytes (r.body ++ (r.checksum ∷ [])) = AreBytes-front (r.body ++ r.checksum ∷ []) (flat_map raw_bytes before ++ rest) (λ i. whole (suc (suc (suc i)))) in
    all_cons (λ x. AreBytes x.body) r before (AreBytes-front r.body (r.checksum ∷ []) body) (bodies_of before rest (AreBytes-back (raw_bytes r) (flat_map raw_bytes before ++ rest) whole))

pub body_small : (bytes : List ℕ) → AreBytes bytes → AreBytes (front_record bytes).body
body_small [] h = λ i. omega arith
body_small (t ∷ []) h = λ i. omega arith
body_small (t ∷ lo ∷ []) h = λ i. omega arith
body_small (t ∷ lo ∷ hi ∷ bytes) h = AreBytes-take (lo + 256 * hi - 1) bytes (λ i. h (suc (suc (suc i))))

pub present_small : (bytes : List ℕ) → AreBytes bytes → AreBytes (present bytes)
present_small [] h i = h i
present_small (t ∷ []) h i = h i
present_small (t ∷ lo ∷ []) h i = h i
present_small (t ∷ lo ∷ hi ∷ bytes) h zero = h 0
present_small (t ∷ lo ∷ hi ∷ bytes) h (suc zero) = h 1
present_small (t ∷ lo ∷ hi ∷ bytes) h (suc (suc zero)) = h 2
present_small (t ∷ lo ∷ hi ∷ bytes) h (suc (suc (suc i))) = AreBytes-take (lo + 256 * hi) bytes (λ j. h (suc (suc (suc j)))) i

-- what holds wherever a list is split holds of all
pub all_split : {A : Type 0} (P : A → Type 0) (xs : List A) → ((earlier later : List A) (x : A) → xs ≡ earlier ++ x ∷ later → P x) → All P xs
all_split P [] h = All-nil P
all_split P (x ∷ xs) h = all_cons P x xs (h [] xs x refl) (all_split P xs (λ earlier later y e. h (x ∷ earlier) later y (ap (λ t. x ∷ t) e)))

-- A refusal by the faults that are computed.
pub record IsRefusedRead (profile : Profile) (limits : Limits) (input : List ℕ) (why : Reason) (at : Place) : Type 0 where
  pub before : List Raw
  pub rest : List ℕ
  pub found : Fault
  pub spelled : input ≡ flat_map raw_bytes before ++ rest
  pub records : All IsRecord before
  pub running : All (λ r. IsTrue (not (is_end r.kind))) before
  pub sound : (earlier later : List Raw) (r : Raw) → before ≡ earlier ++ r ∷ later → faults_after profile limits earlier (raw_bytes r) ≡ []
  pub least : IsLeast (faults_after profile limits before (present rest)) found
  pub named : why ≡ found.reason
  pub there : at ≡ (record { number = length before; start = length (flat_map raw_bytes before); within = found.within })

module _ (profile : Profile) (limits : Limits) where
  pub spelled-sound : (rs : List Raw) → All IsRecord rs → All (λ r. AreBytes r.body) rs
      → ((earlier later : List Raw) (r : Raw) → rs ≡ earlier ++ r ∷ later → faults_after profile limits earlier (raw_bytes r) ≡ []) → All IsSpelled rs
  spelled-sound rs records bodies sound = all_split IsSpelled rs (λ earlier later r e.
      (decided r (all_middle (λ x. AreBytes x.body) rs earlier later r e bodies)).1
      (sound_of profile limits earlier r (all_middle IsRecord rs earlier later r e records) (sound earlier later r e)).read)

  module _ (input : List ℕ) (why : Reason) (at : Place) where
    pub refused-first : (o : IsRefusedRead profile limits input why at) → All (λ r. AreBytes r.body) o.before
        → (first_step (frame_steps (is_empty o.before) (present o.rest)) ≡ [] → AreBytes (front_record (present o.rest)).body) → IsRefused profile limits input why at
    refused-first o bodies small = record {
      before = o.before;
      rest = o.rest;
      found = o.found;
      spelled = o.spelled;
      records = o.records;
      running = o.running;
      sound = λ earlier later r e. none-first profile limits earlier (raw_bytes r) (o.sound earlier later r e);
      first = first-fault profile limits o.before (present o.rest) small (spelled-sound o.before o.records bodies o.sound) o.found o.least;
      named = o.named;
      there = o.there;
    }

    pub refused-read : AreBytes input → IsRefused profile limits input why at → IsRefusedRead profile limits input why at
    refused-read bytes r =
        let parts : AreBytes (flat_map raw_bytes r.before ++ r.rest) = subst AreBytes r.spelled bytes in
        let bodies = bodies_of r.before r.rest parts in
        let rest : AreBytes (present r.rest) = present_small r.rest (AreBytes-back (flat_map raw_bytes r.before) r.rest parts) in
        let same : (earlier later : List Raw) (x : Raw) → r.before ≡ earlier ++ x ∷ later → front_record (raw_bytes x) ≡ x
        = λ earlier later x e. front_raw x (all_middle IsRecord r.before earlier later x e r.records).0 in
        let small : (earlier later : List Raw) (x : Raw) → r.before ≡ earlier ++ x ∷ later → AreBytes (front_record (raw_bytes x)).body
        = λ earlier later x e. subst (λ y. AreBytes y.body) (sym (same earlier later x e)) (all_middle (λ y. AreBytes y.body) r.before earlier later x e bodies) in
        let spelled : All IsSpelled r.before = all_split IsSpelled r.before (λ earlier later x e.
        subst IsSpelled (same earlier later x e) (clean-spelled profile limits earlier (raw_bytes x) (small earlier later x e) (r.sound earlier later x e))) in
        record {
          before = r.before;
          rest = r.rest;
          found = r.found;
          spelled = r.spelled;
          records = r.records;
          running = r.running;
          sound = λ earlier later x e. none-computed profile limits earlier (raw_bytes x) (λ n. small earlier later x e)
              (all_left IsSpelled earlier (x ∷ later) (subst (λ ys. All IsSpelled ys) e spelled)) (r.sound earlier later x e);
          least = least-fault profile limits r.before (present r.rest) (λ n. body_small (present r.rest) rest) spelled r.found r.first;
          named = r.named;
          there = r.there;
        }

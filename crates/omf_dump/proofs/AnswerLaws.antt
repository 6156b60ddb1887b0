-- The records of a module, and those before a fault, are readable.
use Rattle.std.proofs.Common.{◌≡◌, ℕ, ◌+◌, ◌^◌, ◌<◌, ◌≤◌, List, [], ◌∷◌, ◌++◌, length, take, refl, sym, ap, subst, ◌∙◌, arith, length-append}
use Rattle.std.specs.Prelude.{flat_map, All}
use Rattle.omf_frame.specs.Bytes.{AreBytes}
use Rattle.omf_frame.specs.Framing.{Raw, raw_bytes, IsRecord, front_record}
use Rattle.omf_frame.specs.declared.fault.Place.{Place}
use Rattle.omf_frame.specs.declared.fault.Reason.{Reason}
use Rattle.omf_frame.proofs.FaultLaws.{all_cons}
use Rattle.omf_frame.proofs.FramingLaws.{front_raw}
use Rattle.omf_image.specs.Limits.{profile_limits}
use Rattle.omf_records.specs.Inner.LawProofs.{decided}
use Rattle.omf_check.specs.Listed.{IsReadable}
use Rattle.omf_check.specs.Module.{records_in}
use Rattle.omf_check.specs.Refusal.{IsRefused}
use Rattle.omf_check.specs.WellFormed.{IsWellFormed}
use Rattle.omf_check.specs.declared.profile.Profile.{Profile}
use Rattle.omf_check.specs.Inner.Faults.{faults_after}
use Rattle.omf_check.proofs.WellLaws.{well-read}
use Rattle.omf_check.proofs.AcceptLaws.{all_left, all_middle}
use Rattle.omf_check.proofs.FirstLaws.{IsSpelled, clean-spelled, none-computed}
use Rattle.omf_check.proofs.RefusedLaws.{all_split, bodies_of}
use Rattle.omf_check.proofs.StepLaws.{sound_of}
use Rattle.omf_dump.specs.Dump.{AreRecords}
use Rattle.omf_dump.proofs.WalkLaws.{in_between}

pub module_records : (profile : Profile) (bytes shown : List ℕ) (count : ℕ) → shown ≡ bytes → IsWellFormed profile profile_limits bytes (records_in bytes) → count ≡ length (records_in bytes) → count < 2 ^ 32 → AreRecords shown (records_in bytes)
module_records profile bytes shown count e w is few = record {
  spelled = e ∙ w.framed.spelled;
  readable = λ k d low. record { is_record = w.framed.each k d low; taken = w.framed.types k d low; typed = (well-read profile profile_limits bytes (records_in bytes) w).spelled k d low };
  few = omega (arith, is, few);
}

-- what each element of a list has after those before it
each_split : {A : Type 0} (P : A → Type 0) (xs : List A) → ((earlier later : List A) (x : A) → xs ≡ earlier ++ x ∷ later → P x) → All P xs
each_split P [] h = λ k d low. absurd (omega (arith, low))
each_split P (x ∷ xs) h = all_cons P x xs (h [] xs x refl) (each_split P xs (λ earlier later y e. h (x ∷ earlier) later y (ap (λ t. x ∷ t) e)))

take_front : (n : ℕ) (xs ys : List ℕ) → n ≡ length xs → take n (xs ++ ys) ≡ xs
take_front n [] ys e = rw e refl
take_front n (x ∷ xs) ys e = rw e (ap (λ (t : List ℕ). x ∷ t) (take_front (length xs) xs ys refl))

-- the records before a refusal have no fault that is computed
refused-sound : (profile : Profile) (input : List ℕ) (why : Reason) (at : Place) (r : IsRefused profile profile_limits input why at) → AreBytes input
    → (earlier later : List Raw) (x : Raw) → r.before ≡ earlier ++ x ∷ later → faults_after profile profile_limits earlier (raw_bytes x) ≡ []
refused-sound profile input why at r bytes =
    let bodies : All (λ (x : Raw). AreBytes x.body) r.before = bodies_of r.before r.rest (subst AreBytes r.spelled bytes) in
    let same : (earlier later : List Raw) (x : Raw) → r.before ≡ earlier ++ x ∷ later → front_record (raw_bytes x) ≡ x
    = λ earlier later x e. front_raw x (all_middle IsRecord r.before earlier later x e r.records).0 in
    let small : (earlier later : List Raw) (x : Raw) → r.before ≡ earlier ++ x ∷ later → AreBytes (front_record (raw_bytes x)).body
    = λ earlier later x e. subst (λ (y : Raw). AreBytes y.body) (sym (same earlier later x e)) (all_middle (λ (y : Raw). AreBytes y.body) r.before earlier later x e bodies) in
    let spelled : All IsSpelled r.before = all_split IsSpelled r.before (λ earlier later x e.
    subst IsSpelled (same earlier later x e) (clean-spelled profile profile_limits earlier (raw_bytes x) (small earlier later x e) (r.sound earlier later x e))) in
    λ earlier later x e. none-computed profile profile_limits earlier (raw_bytes x) (λ n. small earlier later x e)
    (all_left IsSpelled earlier (x ∷ later) (subst (λ (ys : List Raw). All IsSpelled ys) e spelled)) (r.sound earlier later x e)

pub refused_records : (profile : Profile) (input front : List ℕ) (why : Reason) (at : Place) (r : IsRefused profile profile_limits input why at) → AreBytes input → front ≡ take at.start input → at.number < 2 ^ 32 → AreRecords front r.before
refused_records profile input front why at r bytes e few =
    let start : at.start ≡ length (flat_map raw_bytes r.before) = ap (λ (p : Place). p.start) r.there in
    let number : at.number ≡ length r.before = ap (λ (p : Place). p.number) r.there in
    let bodies : All (λ (x : Raw). AreBytes x.body) r.before = bodies_of r.before r.rest (subst AreBytes r.spelled bytes) in
    record {
      spelled = e ∙ ap (take at.start) r.spelled ∙ take_front at.start (flat_map raw_bytes r.before) r.rest start;
      readable = each_split IsReadable r.before (λ earlier later x is.
          let whole : IsRecord x = in_between IsRecord earlier x later (subst (All IsRecord) is r.records) in
          let sound = sound_of profile profile_limits earlier x whole (refused-sound profile input why at r bytes earlier later x is) in
          record { is_record = whole; taken = sound.known; typed = (decided x (in_between (λ (y : Raw). AreBytes y.body) earlier x later (subst (All (λ (y : Raw). AreBytes y.body)) is bodies))).1 sound.read });
      few = omega (arith, number, few);
    }

pub starts_within : (profile : Profile) (input : List ℕ) (why : Reason) (at : Place) → IsRefused profile profile_limits input why at → at.start ≤ length input
starts_within profile input why at r =
    let start : at.start ≡ length (flat_map raw_bytes r.before) = ap (λ (p : Place). p.start) r.there in
    let size : length (flat_map raw_bytes r.before ++ r.rest) ≡ length (flat_map raw_bytes r.before) + length r.rest = length-append (flat_map raw_bytes r.before) r.rest in
    let all = ap length r.spelled in
    omega (arith, start, size, all)

-- A refusal other than NoEnd and Cut remains, whatever follows.
use Rattle.std.proofs.Common.{◌≡◌, ℕ, List, [], ◌∷◌, ◌++◌, refl, sym, ◌∙◌, ap, subst, Bool, true, false, append_assoc, length, arith, ◌≢◌, ◌≤◌, take, drop, get_or, zero, suc, ◌<◌, ◌+◌, ◌*◌, inl, inr}
use Rattle.std.specs.Prelude.{nat_le, flat_map, Contains}
use Rattle.std.proofs.lemmas.List.{take-append-le, length-take}
use Rattle.std.proofs.lemmas.Bool.{leb-true}
use Rattle.omf_check.specs.Inner.Names.{is_empty}
use Rattle.omf_check.specs.declared.profile.Profile.{Profile}
use Rattle.omf_image.specs.declared.limits.Limits.{Limits}
use Rattle.omf_frame.specs.declared.fault.Place.{Place}
use Rattle.omf_frame.specs.declared.fault.Reason.{Reason}
use Rattle.omf_frame.specs.declared.fault.Reason.TheVariants as reason
use Rattle.omf_frame.specs.Fault.{Fault, IsLeast, first_step, broken, rule}
use Rattle.omf_frame.specs.Framing.{Raw, raw_bytes, present, type_faults, frame_steps}
use Rattle.omf_check.specs.Refusal.{IsRefused, IsFirstFault}
use Rattle.omf_check.proofs.FirstLaws.{no_fault, list_of}
use Rattle.omf_frame.proofs.FramingLaws.{present-append}
use Rattle.omf_frame.proofs.Standing.{present_twice, whole_present}
use Rattle.omf_frame.proofs.StepLaws.{framed_of}
use Rattle.omf_image.specs.Laws.{IsLeastOf}

-- the least of one fault is that fault
only_one : (f g : Fault) → IsLeast (f ∷ []) g → g ≡ f
only_one f g (c, a) = at_index c.0 c.1 c.2
  where
    too_big : (k : ℕ) → suc k < 1 → ⊥
    too_big k h = omega arith

    at_index : (k : ℕ) → k < 1 → get_or (f ∷ []) k g ≡ g → g ≡ f
    at_index zero h e = sym e
    at_index (suc k) h e = absurd (too_big k h)

-- The first step with a fault is that of the type byte, or not before the third step.
type_first : (tf : List Fault) (xs ys : List (List Fault)) (f g : Fault) → IsLeast (first_step (tf ∷ (f ∷ []) ∷ xs)) g → g ≢ f
    → first_step (tf ∷ ys) ≡ first_step (tf ∷ (f ∷ []) ∷ xs)
type_first [] xs ys f g h ne = absurd (ne (only_one f g h))
type_first (t ∷ tf) xs ys f g h ne = refl

module _ (before : List Raw) where
  the_steps : List ℕ → List (List Fault)
  the_steps bytes = frame_steps (is_empty before) (present bytes)

  -- the first two steps depend on the first byte only
  front_steps : (t : ℕ) (bytes : List ℕ) → (later : List (List Fault)) × (the_steps (t ∷ bytes) ≡ [] ∷ type_faults t ∷ later)
  unfolding the_steps
  front_steps t [] = (drop 2 (the_steps (t ∷ [])), refl)
  front_steps t (lo ∷ []) = (drop 2 (the_steps (t ∷ lo ∷ [])), refl)
  front_steps t (lo ∷ hi ∷ bytes) = (drop 2 (the_steps (t ∷ lo ∷ hi ∷ bytes)), refl)

  -- a record that is not whole has no fault but its type's, if Cut is not the fault
  short_stays : (t : ℕ) (bytes : List ℕ) (cut g : Fault) (xs : List (List Fault)) → first_step (the_steps (t ∷ bytes)) ≡ first_step (type_faults t ∷ (cut ∷ []) ∷ xs)
      → IsLeast (first_step (the_steps (t ∷ bytes))) g → g ≢ cut → (more : List ℕ)
      → first_step (the_steps (t ∷ more)) ≡ first_step (the_steps (t ∷ bytes))
  short_stays t bytes cut g xs e h ne more =
      let s = front_steps t more in
      let P : List Fault → Type 0 = λ fs. IsLeast fs g in
      ap first_step s.1 ∙ type_first (type_faults t) xs s.0 cut g (subst P e h) ne ∙ sym e

  -- the fault Cut of some bytes, and NoEnd
  abbrev cut_at : ℕ → Fault
  cut_at n = record { within = n; reason = reason.Cut }

  abbrev no_end : Fault
  no_end = record { within = 0; reason = reason.NoEnd }

  other_reason : (f g : Fault) → g.reason ≢ f.reason → g ≢ f
  other_reason f g ne e = ne (ap (λ x. x.reason) e)

  -- a whole record stays the same record; one that is not whole has the fault Cut
  long_stays : (b : Bool) (t lo hi : ℕ) (bytes more : List ℕ) (g : Fault) → nat_le (lo + 256 * hi) (length (take (lo + 256 * hi) bytes)) ≡ b
      → IsLeast (first_step (the_steps (t ∷ lo ∷ hi ∷ bytes))) g → g.reason ≢ reason.Cut
      → first_step (the_steps (t ∷ lo ∷ hi ∷ bytes ++ more)) ≡ first_step (the_steps (t ∷ lo ∷ hi ∷ bytes))
  unfolding the_steps
  long_stays true t lo hi bytes more g e h ne =
      let n : ℕ = lo + 256 * hi in
      let fits : n ≤ length (take n bytes) = leb-true n (length (take n bytes)) e in
      let enough : n ≤ length bytes = omega (arith, fits, length-take n bytes) in
      ap (λ bs. first_step (frame_steps (is_empty before) (t ∷ lo ∷ hi ∷ bs))) (take-append-le n bytes more enough)
  long_stays false t lo hi bytes more g e h ne =
      let there : List ℕ = t ∷ lo ∷ hi ∷ take (lo + 256 * hi) bytes in
      let later : List (List Fault) = drop 3 (the_steps (t ∷ lo ∷ hi ∷ bytes)) in
      short_stays t (lo ∷ hi ∷ bytes) (cut_at (length there)) g later
      (ap (λ b. first_step (type_faults t ∷ broken (rule b (length there) reason.Cut ∷ []) ∷ later)) e)
      h (other_reason (cut_at (length there)) g ne) (lo ∷ hi ∷ bytes ++ more)

  -- The first step with a fault stays, if the fault is neither NoEnd nor Cut.
  steps_stay : (rest more : List ℕ) (g : Fault) → IsLeast (first_step (the_steps rest)) g → g.reason ≢ reason.NoEnd → g.reason ≢ reason.Cut
      → first_step (the_steps (rest ++ more)) ≡ first_step (the_steps rest)
  unfolding the_steps
  steps_stay [] more g h end cut = absurd (other_reason no_end g end (only_one no_end g h))
  steps_stay (t ∷ []) more g h end cut = short_stays t [] (cut_at 1) g (drop 3 (the_steps (t ∷ []))) refl h (other_reason (cut_at 1) g cut) more
  steps_stay (t ∷ lo ∷ []) more g h end cut = short_stays t (lo ∷ []) (cut_at 2) g (drop 3 (the_steps (t ∷ lo ∷ []))) refl h (other_reason (cut_at 2) g cut) (lo ∷ more)
  steps_stay (t ∷ lo ∷ hi ∷ bytes) more g h end cut = long_stays (nat_le (lo + 256 * hi) (length (take (lo + 256 * hi) bytes))) t lo hi bytes more g refl h cut

module _ (profile : Profile) (limits : Limits) (before : List Raw) (rest more : List ℕ) (f : Fault) where
  -- a whole record stays, and with it its first fault; and so does the least fault of framing
  first_stays : f.reason ≢ reason.NoEnd → f.reason ≢ reason.Cut → IsFirstFault profile limits before (present rest) f → IsFirstFault profile limits before (present (rest ++ more)) f
  unfolding the_steps
  first_stays end cut (inl h) =
      let least = list_of (first_step (the_steps before rest)) f h in
      inl (subst (λ fs. IsLeastOf (Contains fs) f) (sym (steps_stay before rest more f least end cut)) h)
  first_stays end cut (inr h) =
      let whole = (framed_of (is_empty before) (present rest) (no_fault (the_steps_first rest) h.0)).whole in
      let same : present (rest ++ more) ≡ present rest = sym (present-append rest more) ∙ whole_present (present rest) more whole (present_twice rest) in
      subst (λ bs. IsFirstFault profile limits before bs f) (sym same) (inr h)
    where
      the_steps_first : List ℕ → List Fault
      the_steps_first bytes = first_step (frame_steps (is_empty before) (present bytes))

-- A refusal other than NoEnd and Cut remains, whatever follows the input.
pub refusal_stays : (profile : Profile) (limits : Limits) (input more : List ℕ) (why : Reason) (at : Place) → why ≢ reason.NoEnd → why ≢ reason.Cut
    → IsRefused profile limits input why at → IsRefused profile limits (input ++ more) why at
refusal_stays profile limits input more why at end cut r = record {
  before = r.before;
  rest = r.rest ++ more;
  found = r.found;
  spelled = ap (λ bs. bs ++ more) r.spelled ∙ append_assoc (flat_map raw_bytes r.before) r.rest more;
  records = r.records;
  running = r.running;
  sound = r.sound;
  first = first_stays profile limits r.before r.rest more r.found (λ e. end (r.named ∙ e)) (λ e. cut (r.named ∙ e)) r.first;
  named = r.named;
  there = r.there;
}

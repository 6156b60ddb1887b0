-- Modules one after another.
use Rattle.std.proofs.Common.{◌≡◌, ◌⊎◌, true, false, ℕ, ◌+◌, ◌<◌, ◌≤◌, List, [], ◌∷◌, ◌++◌, length, drop, refl, sym, ap, subst, ◌∙◌, arith}
use Rattle.std.proofs.Math.Seq.{drop-append_seam}
use Rattle.std.proofs.lemmas.List.{length-append}
use Rattle.omf_check.specs.Module.{Module}
use Rattle.omf_check.specs.declared.profile.Profile.{Profile}
use Rattle.std.specs.Prelude.{Err}
use Rattle.omf_linking.specs.declared.fault.LinkFault.{LinkFault}
use Rattle.omf_linking.specs.declared.fault.LinkFault.TheVariants as fault
use Rattle.omf_linking.proofs.AfterLaws.{unpadded_within}
use Rattle.omf_linking.specs.Reading.{BeginsWith, IsFront, IsModuleAt, AreModules, begins_module, is_text, unpadded}

module _ (p : Profile) (input : List ℕ) (m : Module) (a : BeginsWith p input m) (bs : List ℕ) (is : bs ≡ m.bytes) where
  pub no_longer : length bs ≤ length input
  no_longer =
      let whole : length input ≡ length a.1.0.bytes + length a.1.0.rest = ap length a.1.0.spelled ∙ length-append a.1.0.bytes a.1.0.rest in
      let same : length bs ≡ length a.1.0.bytes = ap length (is ∙ sym a.1.1) in
      omega (arith, whole, same)

  pub rest_within : length a.1.0.rest ≤ length input
  rest_within =
      let whole : length input ≡ length a.1.0.bytes + length a.1.0.rest = ap length a.1.0.spelled ∙ length-append a.1.0.bytes a.1.0.rest in
      omega (arith, whole)

  pub behind : drop (length bs) input ≡ a.1.0.rest
  behind =
      ap (λ (n : ℕ). drop n input) (ap length (is ∙ sym a.1.1)) ∙ ap (λ (xs : List ℕ). drop (length a.1.0.bytes) xs) a.1.0.spelled ∙ drop-append_seam a.1.0.bytes a.1.0.rest

-- what is left without padding is no longer
pub left_within : (p : Profile) (input : List ℕ) (m : Module) (a : BeginsWith p input m) (left : List ℕ) → left ≡ unpadded a.1.0.rest → length left ≤ length input
left_within p input m a left e =
    let same = ap length e in
    let less = unpadded_within a.1.0.rest in
    let inside = rest_within p input m a m.bytes refl in
    omega (arith, same, less, inside)

-- one more module
pub front_more : (p : Profile) (input : List ℕ) (ms : List Module) (rest : List ℕ) (m : Module) → IsFront p input ms rest → (a : BeginsWith p rest m) → IsFront p input (ms ++ m ∷ []) (unpadded a.1.0.rest)
front_more p input [] rest m h a = subst (λ (i : List ℕ). IsFront p i (m ∷ []) (unpadded a.1.0.rest)) (sym h) (a, refl)
front_more p input (n ∷ ms) rest m (b, f) a = (b, front_more p (unpadded b.1.0.rest) ms rest m f a)

pub front_grown : (p : Profile) (input : List ℕ) (ms now : List Module) (rest left : List ℕ) (m : Module) → now ≡ ms ++ m ∷ [] → IsFront p input ms rest → (a : BeginsWith p rest m) → left ≡ unpadded a.1.0.rest
    → IsFront p input now left
front_grown p input ms now rest left m n h a e =
    subst (λ (l : List ℕ). IsFront p input now l) (sym e) (subst (λ (xs : List Module). IsFront p input xs (unpadded a.1.0.rest)) (sym n) (front_more p input ms rest m h a))

-- what is left after them is no text
pub no_text : (p : Profile) (input : List ℕ) (ms : List Module) (rest : List ℕ) (at : ℕ) → IsFront p input ms rest → 0 < length ms → begins_module rest ≡ false → is_text rest ≡ false → at + length rest ≡ length input
    → AreModules p input (Err (fault.NoText at))
no_text p input ms rest at h s e t c = record { modules = ms; rest = rest; front = h; some = s; ended = e; strange = t; counted = c }

-- a module that is refused after others
pub refused_behind : (p : Profile) (input : List ℕ) (ms : List Module) (rest : List ℕ) (number : ℕ) (f : LinkFault) → IsFront p input ms rest → length ms ≡ number → (ms ≡ []) ⊎ (begins_module rest ≡ true) → IsModuleAt p number rest (Err f) → AreModules p input (Err f)
refused_behind p input ms rest number fault.Memory h c b r = tt
refused_behind p input ms rest number fault.Read h c b r = absurd r
refused_behind p input ms rest number (fault.Refused k why at) h c b r = record { modules = ms; rest = rest; front = h; counted = c ∙ sym r.0; begun = b; refused = r.1 }
refused_behind p input ms rest number (fault.NoText at) h c b r = absurd r
refused_behind p input ms rest number fault.NoModules h c b r = absurd r
refused_behind p input ms rest number (fault.Line n why) h c b r = absurd r
refused_behind p input ms rest number (fault.External f) h c b r = absurd r
refused_behind p input ms rest number (fault.Reach k f) h c b r = absurd r
refused_behind p input ms rest number (fault.Starts j k) h c b r = absurd r
refused_behind p input ms rest number (fault.Space f) h c b r = absurd r

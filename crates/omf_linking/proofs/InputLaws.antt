-- Each input is read as modules, or refused.
use Rattle.std.proofs.Common.{◌≡◌, ◌⊎◌, ℕ, zero, suc, ◌+◌, ◌-◌, ◌<◌, ◌≤◌, Bool, true, false, List, [], ◌∷◌, length, refl, sym, ap, subst, ◌∙◌, arith, inl, inr, Result, Ok, Err}
use Rattle.std.specs.Prelude.{IsTrue, slice_index}
use Rattle.std.proofs.lemmas.List.{length-append}
use Rattle.omf_frame.specs.Bytes.{AreBytes}
use Rattle.omf_frame.specs.Framing.{Raw, is_header}
use Rattle.omf_frame.specs.declared.fault.Place.{Place}
use Rattle.omf_frame.specs.declared.fault.Reason.{Reason}
use Rattle.omf_frame.proofs.ModuleLaws.{bytes_behind}
use Rattle.omf_image.specs.Limits.{profile_limits}
use Rattle.omf_check.specs.Module.{Module}
use Rattle.omf_check.specs.Refusal.{IsRefused}
use Rattle.omf_check.specs.WellFormed.{IsAccepted, IsWellFormed}
use Rattle.omf_check.specs.declared.profile.Profile.{Profile}
use Rattle.omf_check.proofs.SessionLaws.{records_of}
use Rattle.omf_check.proofs.VerdictLaws.{either}
use Rattle.omf_linking.proofs.AfterLaws.{unpadded_small, unpadded_within}
use Rattle.omf_linking.specs.Reading.{AreModules, BeginsWith, IsFront, begins_module, is_text, unpadded}
use Rattle.omf_linking.specs.declared.fault.LinkFault.{LinkFault}
use Rattle.omf_linking.specs.declared.fault.LinkFault.TheVariants as fault
use Rattle.omf_linking.specs.Laws.{InputsAreRead, is_settled}

nonempty : (bytes : List ℕ) → IsTrue (is_header (slice_index bytes 0)) → 0 < length bytes
nonempty [] h = absurd cc
nonempty (b ∷ bs) h = omega arith

abbrev Reading : Profile → List ℕ → Type 0
Reading p input = (r : Result (List Module × List ℕ) LinkFault) × (is_settled r ≡ true) × AreModules p input r

module _ (p : Profile) where
  -- an accepted input begins with a module
  abbrev begins : (input : List ℕ) (rs : List Raw) (a : IsAccepted p profile_limits input rs) → BeginsWith p input (record { bytes = a.bytes; profile = p })
  begins input rs a =
      let same = records_of a.bytes rs a.well_formed.framed in
      (refl, (record { bytes = a.bytes; rest = a.rest; spelled = a.spelled; well_formed = subst (λ (xs : List Raw). IsWellFormed p profile_limits a.bytes xs) (sym same) a.well_formed }, refl))

  refused : (input : List ℕ) (why : Reason) (at : Place) → IsRefused p profile_limits input why at → Reading p input
  refused input why at h = (Err (fault.Refused 0 why at), refl, record { modules = []; rest = input; front = refl; counted = refl; begun = inl refl; refused = h })

  -- how far the rest is behind the front
  ends_at : (input : List ℕ) (rs : List Raw) (a : IsAccepted p profile_limits input rs) → length (unpadded a.rest) ≤ length input
  ends_at input rs a =
      let whole : length input ≡ length a.bytes + length a.rest = ap length a.spelled ∙ length-append a.bytes a.rest in
      let less = unpadded_within a.rest in
      omega (arith, whole, less)

  alone : (input : List ℕ) (rs : List Raw) (a : IsAccepted p profile_limits input rs) → begins_module (unpadded a.rest) ≡ false → (t : Bool) → is_text (unpadded a.rest) ≡ t → Reading p input
  alone input rs a e true t = (Ok (record { bytes = a.bytes; profile = p } ∷ [], unpadded a.rest), refl, ((begins input rs a, refl), e, omega arith, t))
  alone input rs a e false t =
      let within = ends_at input rs a in (
        Err (fault.NoText (length input - length (unpadded a.rest))),
        refl,
        record {
          modules = record { bytes = a.bytes; profile = p } ∷ [];
          rest = unpadded a.rest;
          front = (begins input rs a, refl);
          some = omega arith;
          ended = e;
          strange = t;
          counted = omega (arith, within);
        },
      )

  still_begun : (ms : List Module) (rest left : List ℕ) → IsFront p rest ms left → begins_module rest ≡ true → (ms ≡ []) ⊎ (begins_module left ≡ true) → begins_module left ≡ true
  still_begun ms rest left f e (inr b) = b
  still_begun ms rest left f e (inl none) = let same : rest ≡ left = subst (λ (xs : List Module). IsFront p rest xs left) none f in ap begins_module (sym same) ∙ e

  one_more : (input : List ℕ) (rs : List Raw) (a : IsAccepted p profile_limits input rs) → begins_module (unpadded a.rest) ≡ true → Reading p (unpadded a.rest) → Reading p input
  one_more input rs a e (Ok r, s, h) = (Ok (record { bytes = a.bytes; profile = p } ∷ r.0, r.1), refl, ((begins input rs a, h.0), h.1, omega arith, h.3))
  one_more input rs a e (Err (fault.Refused k why at), s, h) = (
    Err (fault.Refused (suc k) why at),
    refl,
    record {
      modules = record { bytes = a.bytes; profile = p } ∷ h.modules;
      rest = h.rest;
      front = (begins input rs a, h.front);
      counted = ap suc h.counted;
      begun = inr (still_begun h.modules (unpadded a.rest) h.rest h.front e h.begun);
      refused = h.refused;
    },
  )
  one_more input rs a e (Err (fault.NoText at), s, h) =
      let within = ends_at input rs a in (
        Err (fault.NoText (length input - length (unpadded a.rest) + at)),
        refl,
        record {
          modules = record { bytes = a.bytes; profile = p } ∷ h.modules;
          rest = h.rest;
          front = (begins input rs a, h.front);
          some = omega arith;
          ended = h.ended;
          strange = h.strange;
          counted = omega (arith, within, h.counted);
        },
      )
  one_more input rs a e (Err fault.Memory, s, h) = absurd cc
  one_more input rs a e (Err fault.Read, s, h) = absurd h
  one_more input rs a e (Err fault.NoModules, s, h) = absurd h
  one_more input rs a e (Err (fault.Line n why), s, h) = absurd h
  one_more input rs a e (Err (fault.External f), s, h) = absurd h
  one_more input rs a e (Err (fault.Reach k f), s, h) = absurd h
  one_more input rs a e (Err (fault.Starts j k), s, h) = absurd h
  one_more input rs a e (Err (fault.Space f), s, h) = absurd h

  goes_on : (fuel : ℕ) (input : List ℕ) → length input < suc fuel → AreBytes input → ((rest : List ℕ) → length rest < fuel → AreBytes rest → Reading p rest)
      → (rs : List Raw) (a : IsAccepted p profile_limits input rs) (b : Bool) → begins_module (unpadded a.rest) ≡ b → Reading p input
  goes_on fuel input low small again rs a false e = alone input rs a e (is_text (unpadded a.rest)) refl
  goes_on fuel input low small again rs a true e =
      let some = nonempty a.bytes a.well_formed.framed.first in
      let whole : length input ≡ length a.bytes + length a.rest = ap length a.spelled ∙ length-append a.bytes a.rest in
      let less = unpadded_within a.rest in
      one_more input rs a e (again (unpadded a.rest) (omega (arith, low, some, whole, less)) (unpadded_small a.rest (bytes_behind a.bytes a.rest (subst AreBytes a.spelled small))))

  by_either : (fuel : ℕ) (input : List ℕ) → length input < suc fuel → AreBytes input → ((rest : List ℕ) → length rest < fuel → AreBytes rest → Reading p rest)
      → ((rs : List Raw) × IsAccepted p profile_limits input rs) ⊎ ((why : Reason) × (at : Place) × IsRefused p profile_limits input why at) → Reading p input
  by_either fuel input low small again (inl (rs, a)) = goes_on fuel input low small again rs a (begins_module (unpadded a.rest)) refl
  by_either fuel input low small again (inr (why, at, r)) = refused input why at r

  read : (fuel : ℕ) (input : List ℕ) → length input < fuel → AreBytes input → Reading p input
  read zero input low small = absurd (omega (arith, low))
  read (suc fuel) input low small = by_either fuel input low small (λ rest less bytes. read fuel rest less bytes) (either p profile_limits input small)

pub are_read : InputsAreRead
are_read p input small = read p (suc (length input)) input (omega arith) small

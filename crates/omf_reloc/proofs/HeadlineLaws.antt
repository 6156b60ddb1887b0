-- The answer to an input and a placement: what the answer of a check gives, and that there is exactly one answer.
use Rattle.std.proofs.Common.{◌≡◌, ℕ, List, Ok, Err, subst, refl, sym, ap, ap₂, ◌∙◌, ◌⊎◌, inl, inr, Some, None}
use Rattle.omf_check.specs.declared.fault.CheckFault.{CheckFault}
use Rattle.omf_check.specs.declared.fault.CheckFault.TheVariants.{Refused}
use Rattle.omf_frame.specs.Framing.{Raw}
use Rattle.omf_frame.specs.declared.fault.Place.{Place}
use Rattle.omf_frame.specs.declared.fault.Reason.{Reason}
use Rattle.omf_image.specs.Limits.{profile_limits}
use Rattle.omf_check.specs.Checking.{Decides}
use Rattle.omf_check.specs.Module.{Module, records_in}
use Rattle.omf_check.specs.Refusal.{IsRefused}
use Rattle.omf_check.specs.WellFormed.{IsAccepted, recs}
use Rattle.omf_check.specs.declared.profile.Profile.{Profile}
use Rattle.omf_check.proofs.AcceptLaws.{never_both, accepted_once}
use Rattle.omf_check.proofs.SoundLaws.{module_holds}
use Rattle.omf_check.proofs.UseLaws.{module-uses}
use Rattle.omf_check.proofs.WellLaws.{typed-read}
use Rattle.omf_check.specs.Uses.{UsesAreDefined}
use Rattle.omf_image.specs.Overlay.{Laid, byte_at}
use Rattle.omf_reloc.specs.Inner.Names.{BeginsWith}
use Rattle.omf_reloc.specs.Headline.{Headline, HasImage, IsRelocated}
use Rattle.omf_reloc.specs.Laws.{AllReach, AllLieInside}
use Rattle.omf_reloc.proofs.ReachLaws.{reach-decided}
use Rattle.std.specs.Prelude.{Option}
use Rattle.omf_frame.specs.Bytes.{AreBytes}
use Rattle.omf_check.proofs.UniqueLaws.{refused_once}
use Rattle.omf_check.proofs.VerdictLaws.{either}
use Rattle.omf_placement.specs.Placement.{Places}
use Rattle.omf_reloc.specs.Image.{image, laid, start}
use Rattle.omf_reloc.specs.Plain.{pieces}
use Rattle.omf_reloc.specs.Reach.{reach_fault}
use Rattle.omf_reloc.specs.declared.fault.ReachFault.{ReachFault}
use Rattle.omf_reloc.proofs.InsideLaws.{all-inside}
use Rattle.omf_reloc.specs.HeadlineLaws.{AcceptedAreSafe, IsSame}
use Rattle.omf_reloc.specs.declared.headline.Answer.{Answer}
use Rattle.omf_reloc.specs.declared.headline.Answer.TheVariants.{Refused, DoesNotReach, Relocated}

pub begins : (profile : Profile) (input : List ℕ) (m : Module) → Decides profile input (Ok m) → BeginsWith profile input (records_in m.bytes)
begins profile input m d = d.1.0

refuses : (profile : Profile) (input : List ℕ) (pl : Places) (why : Reason) (at : Place) → IsRefused profile profile_limits input why at → Headline profile input pl (Refused why at)
refuses profile input pl why at r = record { answers = λ records a. never_both profile profile_limits input records why at a r; reasons = r }

pub refuses_so : (profile : Profile) (input : List ℕ) (pl : Places) (fault : CheckFault) (why : Reason) (at : Place) → fault ≡ Refused why at → Decides profile input (Err fault)
    → Headline profile input pl (Refused why at)
refuses_so profile input pl fault why at e d = refuses profile input pl why at (subst (λ f. Decides profile input (Err f)) e d)

none_some : (o : Option ReachFault) (f : ReachFault) → o ≡ None → o ≡ Some f → ⊥
none_some o f e h = cc

same_some : (f g : ReachFault) → ◌≡◌ {A = Option ReachFault} (Some f) (Some g) → f ≡ g
same_some f g e = cc

module _ (profile : Profile) (input : List ℕ) (pl : Places) where
  -- the typed records of the module are those read
  typed_of : (records : List Raw) (a : BeginsWith profile input records) → a.well_formed.typed_records ≡ recs records
  typed_of records a = typed-read profile profile_limits a.bytes records a.well_formed

  pub does_not_reach : (records : List Raw) → BeginsWith profile input records → (f : ReachFault) → reach_fault pl (recs records) ≡ Some f → Headline profile input pl (DoesNotReach f)
  does_not_reach records a f e = record {
    answers = (records, a, λ r. none_some (reach_fault pl (recs records)) f ((reach-decided pl (recs records)).decided.1 (subst (AllReach pl) (typed_of records a) r)) e);
    reasons = (records, a, ap (reach_fault pl) (typed_of records a) ∙ e);
  }

  pub relocates : (records : List Raw) → BeginsWith profile input records → (placed : List Laid) (begin : Option (ℕ × ℕ)) → IsRelocated pl records (byte_at placed) begin
      → Headline profile input pl (Relocated placed begin)
  relocates records a placed begin r = record {
    answers = (
      records,
      a,
      subst (λ m. HasImage pl m (byte_at placed) begin) (sym (typed_of records a))
          (record { reaches = (reach-decided pl (recs records)).decided.0 r.reaches; bytes = r.bytes; begins = r.begins }),
    );
    reasons = tt;
  }

  of_module : (records : List Raw) → BeginsWith profile input records → (o : Option ReachFault) → reach_fault pl (recs records) ≡ o → (answer : Answer) × Headline profile input pl answer
  of_module records a None e = (
    Relocated (laid profile_limits pl (pieces (recs records))) (start pl (recs records)),
    relocates records a (laid profile_limits pl (pieces (recs records))) (start pl (recs records)) (record { reaches = e; bytes = λ segment offset. refl; begins = refl }),
  )
  of_module records a (Some f) e = (DoesNotReach f, does_not_reach records a f e)

  of_either : ((records : List Raw) × IsAccepted profile profile_limits input records) ⊎ ((why : Reason) × (at : Place) × IsRefused profile profile_limits input why at)
      → (answer : Answer) × Headline profile input pl answer
  of_either (inl h) = of_module h.0 h.1 (reach_fault pl (recs h.0)) refl
  of_either (inr h) = (Refused h.0 h.1, refuses profile input pl h.0 h.1 h.2)

  pub answer_is_there : AreBytes input → (answer : Answer) × Headline profile input pl answer
  answer_is_there small = of_either (either profile profile_limits input small)

  same_module : (rs ss : List Raw) (a : BeginsWith profile input rs) (b : BeginsWith profile input ss) → a.well_formed.typed_records ≡ b.well_formed.typed_records
  same_module rs ss a b = typed_of rs a ∙ ap recs (accepted_once profile profile_limits input rs ss a b).0 ∙ sym (typed_of ss b)

  pub answer_is_unique : (answer other : Answer) → Headline profile input pl answer → Headline profile input pl other → IsSame answer other
  answer_is_unique (Refused why at) (Refused other there) h i = let e = refused_once profile profile_limits input why other at there h.reasons i.reasons in ap₂ Refused e.0 e.1
  answer_is_unique (Refused why at) (DoesNotReach f) h i = absurd (h.answers i.answers.0 i.answers.1)
  answer_is_unique (Refused why at) (Relocated image begin) h i = absurd (h.answers i.answers.0 i.answers.1)
  answer_is_unique (DoesNotReach f) (Refused why at) h i = absurd (i.answers h.answers.0 h.answers.1)
  answer_is_unique (DoesNotReach f) (DoesNotReach g) h i =
      ap DoesNotReach (same_some f g (sym h.reasons.2 ∙ ap (reach_fault pl) (same_module h.reasons.0 i.reasons.0 h.reasons.1 i.reasons.1) ∙ i.reasons.2))
  answer_is_unique (DoesNotReach f) (Relocated image begin) h i =
      absurd (h.answers.2 (subst (AllReach pl) (same_module i.answers.0 h.answers.0 i.answers.1 h.answers.1) i.answers.2.reaches))
  answer_is_unique (Relocated image begin) (Refused why at) h i = absurd (i.answers h.answers.0 h.answers.1)
  answer_is_unique (Relocated image begin) (DoesNotReach f) h i =
      absurd (i.answers.2 (subst (AllReach pl) (same_module h.answers.0 i.answers.0 h.answers.1 i.answers.1) h.answers.2.reaches))
  answer_is_unique (Relocated bytes begin) (Relocated other there) h i =
      let same = same_module h.answers.0 i.answers.0 h.answers.1 i.answers.1 in (
        λ segment offset. h.answers.2.bytes segment offset ∙ ap (λ m. image profile_limits pl m segment offset) same ∙ sym (i.answers.2.bytes segment offset),
        h.answers.2.begins ∙ ap (start pl) same ∙ sym i.answers.2.begins,
      )

-- What an input begins with is safe.
pub accepted-safe : AcceptedAreSafe
accepted-safe = λ profile input records a.
    let holds = module_holds profile profile_limits a.bytes records a.well_formed in
    let typed = typed-read profile profile_limits a.bytes records a.well_formed in
    (subst UsesAreDefined (sym typed) (module-uses profile_limits (recs records) holds), λ pl. subst (AllLieInside pl) (sym typed) (all-inside pl (recs records) holds))

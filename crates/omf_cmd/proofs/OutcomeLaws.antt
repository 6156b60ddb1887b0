-- What `reloc` answers, from what its parts answer.
use Rattle.std.proofs.Common.{◌≡◌, ◌<◌, ◌≤◌, ℕ, ◌+◌, List, ◌++◌, length, refl, sym, ap, subst, ◌∙◌, arith, Result, Ok, Err, Some, None, inl, inr}
use Rattle.std.specs.Prelude.{◌⊎◌, IsOk, Option, if◌then◌else◌}
use Rattle.std.specs.Io.KnownBytes.{Consumes}
use Rattle.std.proofs.KnownBytes.{Consumes-trans}
use Rattle.std.proofs.lemmas.Bool.{le-ltb, lt-ltb}
use Rattle.std.proofs.lemmas.List.{append-nil, length-append}
use Rattle.omf_frame.specs.Framing.{Raw}
use Rattle.omf_frame.specs.declared.fault.Place.{Place}
use Rattle.omf_frame.specs.declared.fault.Reason.{Reason}
use Rattle.omf_records.specs.Values.{Rec}
use Rattle.omf_image.specs.Inner.Joined.{runs_of}
use Rattle.omf_image.specs.Limits.{profile_limits}
use Rattle.omf_image.specs.Overlay.{Laid, byte_at}
use Rattle.omf_check.specs.Checking.{Decides, IsCheckFault}
use Rattle.omf_check.specs.Module.{Module, records_in}
use Rattle.omf_check.specs.Tables.{segments}
use Rattle.omf_check.specs.WellFormed.{IsAccepted, IsWellFormed, recs}
use Rattle.omf_check.specs.declared.fault.CheckFault.{CheckFault}
use Rattle.omf_check.specs.declared.fault.CheckFault.TheVariants as check
use Rattle.omf_check.specs.declared.profile.Profile.{Profile}
use Rattle.omf_reloc.specs.Image.{laid}
use Rattle.omf_placement.specs.Placement.{Places}
use Rattle.omf_placement.specs.PlacementText.{Draft, parsed}
use Rattle.omf_reloc.specs.Plain.{pieces}
use Rattle.omf_reloc.specs.Headline.{IsAnswerAt, IsRelocated}
use Rattle.omf_reloc.specs.Reach.{reach_fault}
use Rattle.omf_reloc.specs.declared.fault.ReachFault.{ReachFault}
use Rattle.omf_reloc.specs.declared.headline.AnswerAt.{AnswerAt}
use Rattle.omf_reloc.specs.declared.headline.AnswerAt.TheVariants as at
use Rattle.omf_cmd.specs.HowFar.{IsReadPast, IsReadWithin}
use Rattle.omf_cmd.specs.Outcome.{placement_of, reloc_outcome, text_limit}
use Rattle.omf_cmd.specs.Inner.Names.{unless_far}
use Rattle.omf_cmd.specs.Inner.Names.{of_placement}
use Rattle.omf_cmd.specs.Relocated.{image_text}
use Rattle.omf_cmd.specs.Relocating.{HasOutcome, IsAnswered, IsListingAt, IsOutcome, IsPlaced, IsShortText, IsTextFault, IsWholeText, listing_of}
use Rattle.omf_cmd.specs.Reports.{of_check}
use Rattle.omf_cmd.specs.declared.fault.RunFault.{RunFault}
use Rattle.omf_cmd.specs.declared.fault.RunFault.TheVariants as fault
use Rattle.omf_cmd.proofs.RunLines.{same_text}

-- ---- a checked module and a text

-- a text within the limit is parsed
within_limit : (m : List Rec) (text : List ℕ) → length text ≤ text_limit → reloc_outcome profile_limits m text ≡ of_placement profile_limits m (placement_of m (parsed text))
within_limit m text short = ap (λ b. if b then Err fault.TooLong else of_placement profile_limits m (placement_of m (parsed text))) (le-ltb text_limit (length text) short)

-- a longer one is not
beyond_limit : (m : List Rec) (text : List ℕ) → text_limit < length text → reloc_outcome profile_limits m text ≡ Err fault.TooLong
beyond_limit m text long = ap (λ b. if b then Err fault.TooLong else of_placement profile_limits m (placement_of m (parsed text))) (lt-ltb text_limit (length text) long)

-- the text of an image and a start is what is to be printed
relocated_text : (records : List Raw) (pl : Places) (image : List Laid) (begin : Option (ℕ × ℕ)) → IsRelocated pl records (byte_at image) begin
    → unless_far profile_limits (recs records) pl (reach_fault pl (recs records)) ≡ Ok (image_text (length (segments (recs records))) (byte_at image) (runs_of image) begin)
relocated_text records pl image begin is =
    let pieces_laid = laid profile_limits pl (pieces (recs records)) in
    ap (unless_far profile_limits (recs records) pl) is.reaches
    ∙ ap (λ (t : List ℕ). Ok t)
    (sym (same_text pieces_laid image (length (segments (recs records))) begin is.bytes
    ∙ ap (λ (s : Option (ℕ × ℕ)). image_text (length (segments (recs records))) (byte_at pieces_laid) (runs_of pieces_laid) s) is.begins))

-- an answer has the text that is to be printed
answer_outcome : (records : List Raw) (pl : Places) (answer : AnswerAt) → IsAnswerAt pl records answer
    → unless_far profile_limits (recs records) pl (reach_fault pl (recs records)) ≡ listing_of (length (segments (recs records))) answer
answer_outcome records pl (at.DoesNotReach f) is = ap (unless_far profile_limits (recs records) pl) is
answer_outcome records pl (at.Relocated image begin) is = relocated_text records pl image begin is

-- an answer has no other faults
not_read : (n : ℕ) (answer : AnswerAt) → ◌≡◌ {A = Result (List ℕ) RunFault} (Err fault.Read) (listing_of n answer) → ⊥
not_read n (at.DoesNotReach f) e = cc
not_read n (at.Relocated image begin) e = cc

not_write : (n : ℕ) (answer : AnswerAt) → ◌≡◌ {A = Result (List ℕ) RunFault} (Err fault.Write) (listing_of n answer) → ⊥
not_write n (at.DoesNotReach f) e = cc
not_write n (at.Relocated image begin) e = cc

not_refused : (n : ℕ) (why : Reason) (where_at : Place) (answer : AnswerAt) → ◌≡◌ {A = Result (List ℕ) RunFault} (Err (fault.Refused why where_at)) (listing_of n answer) → ⊥
not_refused n why where_at (at.DoesNotReach f) e = cc
not_refused n why where_at (at.Relocated image begin) e = cc

-- a text that gives a placement has no line at fault
parsed_well : (m : List Rec) (r : Result Draft ℕ) (pl : Places) → placement_of m r ≡ Ok pl → IsOk r
parsed_well m (Ok draft) pl e = refl
parsed_well m (Err n) pl e = absurd cc

module _ (records : List Raw) (given : List ℕ) (pl : Places) (placed : IsPlaced (recs records) given (Ok pl)) where
  -- what is listed at the placement of a text is the outcome for that text
  outcome_is : (r : Result (List ℕ) RunFault) (answer : AnswerAt) → IsAnswerAt pl records answer → r ≡ listing_of (length (segments (recs records))) answer
      → reloc_outcome profile_limits (recs records) given ≡ r
  outcome_is r answer is listed =
      within_limit (recs records) given placed.0 ∙ ap (of_placement profile_limits (recs records)) placed.1 ∙ answer_outcome records pl answer is ∙ sym listed

  pub listing_outcome : (r : Result (List ℕ) RunFault) → IsListingAt pl records r → IsOutcome (recs records) given r
  listing_outcome (Ok shown) h = outcome_is (Ok shown) h.0 h.1 h.2
  listing_outcome (Err fault.Memory) h = (placed.0, parsed_well (recs records) (parsed given) pl placed.1)
  listing_outcome (Err (fault.Line n)) h = outcome_is (Err (fault.Line n)) h.0 h.1 h.2
  listing_outcome (Err fault.TooLong) h = outcome_is (Err fault.TooLong) h.0 h.1 h.2
  listing_outcome (Err (fault.Reach f)) h = outcome_is (Err (fault.Reach f)) h.0 h.1 h.2
  listing_outcome (Err fault.Read) h = not_read (length (segments (recs records))) h.0 h.2
  listing_outcome (Err fault.Write) h = not_write (length (segments (recs records))) h.0 h.2
  listing_outcome (Err (fault.Refused why place)) h = not_refused (length (segments (recs records))) why place h.0 h.2

-- a text within the limit is not too long
near_long : (m : List Rec) (pl : Places) (o : Option ReachFault) → unless_far profile_limits m pl o ≡ Err fault.TooLong → ⊥
near_long m pl None e = cc
near_long m pl (Some f) e = cc

placed_long : (m : List Rec) (r : Result Places ℕ) → of_placement profile_limits m r ≡ Err fault.TooLong → ⊥
placed_long m (Ok pl) e = near_long m pl (reach_fault pl m) e
placed_long m (Err n) e = cc

never_long : (m : List Rec) (text : List ℕ) → length text ≤ text_limit → reloc_outcome profile_limits m text ≡ Err fault.TooLong → ⊥
never_long m text short e = placed_long m (placement_of m (parsed text)) (sym (within_limit m text short) ∙ e)

-- ---- an input

-- where no module is given, that is the answer
pub not_checked : (profile : Profile) (input : List ℕ) (old new : Option (List ℕ)) (failed fails : ℕ) (e : CheckFault) → Decides profile input (Err e) → IsCheckFault profile old new failed fails e
    → IsAnswered profile input old new (Err (of_check e))
not_checked profile input old new failed fails check.Memory d c = (tt, inl c)
not_checked profile input old new failed fails check.Read d c = (tt, inl c.1)
not_checked profile input old new failed fails (check.Refused why at) d c = (d, c)

module _ (profile : Profile) (input : List ℕ) (m : Module) (d : Decides profile input (Ok m)) where
  -- the input begins with the module, whatever follows
  accepted : (rest : List ℕ) → input ≡ m.bytes ++ rest → IsAccepted profile profile_limits input (records_in m.bytes)
  accepted rest spelled = record {
    bytes = m.bytes;
    rest = rest;
    spelled = spelled;
    well_formed = subst (λ (bytes : List ℕ). IsWellFormed profile profile_limits bytes (records_in m.bytes)) d.1.1 d.1.0.well_formed;
  }

  with_outcome : (rest : List ℕ) (r : Result (List ℕ) RunFault) → input ≡ m.bytes ++ rest → reloc_outcome profile_limits (recs (records_in m.bytes)) rest ≡ r → HasOutcome profile input r
  unfolding accepted
  with_outcome rest r spelled is = record { records = records_in m.bytes; accepted = accepted rest spelled; is = is }

  -- what was read behind the module
  read_past : (mid new : Option (List ℕ)) (text : List ℕ) → Consumes (Some input) mid m.bytes → Consumes mid new text → IsReadPast profile input (Some input) new (length text)
  unfolding accepted
  read_past None new text of_module of_text = absurd of_module
  read_past (Some rest) new text of_module of_text = record {
    records = records_in m.bytes;
    accepted = accepted rest of_module;
    text = text;
    read = Consumes-trans (Some input) (Some rest) new m.bytes text of_module of_text;
    counted = refl;
  }

  no_more : {A : Type 0} (mid new : Option (List ℕ)) → Consumes (Some input) mid m.bytes → IsShortText mid new → A ⊎ IsReadWithin profile input (Some input) new
  no_more mid new of_module of = inr (length of.0, of.2, read_past mid new of.0 of_module of.1)

  too_long : (mid new : Option (List ℕ)) (read : List ℕ) → Consumes (Some input) mid m.bytes → Consumes mid new read → length read ≡ text_limit + 1 → HasOutcome profile input (Err fault.TooLong)
  too_long None new read of_module of_text long = absurd of_module
  too_long (Some rest) None read of_module of_text long = absurd of_text
  too_long (Some rest) (Some left) read of_module of_text long =
      let both : length rest ≡ length read + length left = ap length of_text ∙ length-append read left in
      with_outcome rest (Err fault.TooLong) of_module (beyond_limit (recs (records_in m.bytes)) rest (omega arith))

  no_text : (mid new : Option (List ℕ)) (e : RunFault) → Consumes (Some input) mid m.bytes → IsTextFault mid new e → IsAnswered profile input (Some input) new (Err e)
  no_text mid new fault.Memory of_module of = (tt, no_more mid new of_module of)
  no_text mid new fault.Read of_module of = (tt, no_more mid new of_module of)
  no_text mid new fault.TooLong of_module of = (
    too_long mid new of.0 of_module of.1 of.2,
    subst (IsReadPast profile input (Some input) new) of.2 (read_past mid new of.0 of_module of.1),
  )
  no_text mid new fault.Write of_module of = absurd of
  no_text mid new (fault.Refused why at) of_module of = absurd of
  no_text mid new (fault.Line n) of_module of = absurd of
  no_text mid new (fault.Reach f) of_module of = absurd of

  -- no text was read
  pub text_refused : (old mid new : Option (List ℕ)) (e : RunFault) → old ≡ Some input → Consumes old mid m.bytes → IsTextFault mid new e → IsAnswered profile input old new (Err e)
  text_refused old mid new e told of_module of =
      subst (λ (o : Option (List ℕ)). IsAnswered profile input o new (Err e)) (sym told) (no_text mid new e (subst (λ (o : Option (List ℕ)). Consumes o mid m.bytes) told of_module) of)

  -- all that is left of the input is the text
  whole : (mid new : Option (List ℕ)) (text : List ℕ) → Consumes (Some input) mid m.bytes → IsWholeText mid new text → input ≡ m.bytes ++ text
  whole None new text of_module of = absurd of_module
  whole (Some rest) None text of_module of = absurd of.read
  whole (Some rest) (Some left) text of_module of =
      let is : rest ≡ text = of.read ∙ ap (λ (t : List ℕ). text ++ t) of.all ∙ append-nil text in
      of_module ∙ ap (λ (t : List ℕ). m.bytes ++ t) is

  all_read : (mid new : Option (List ℕ)) (text : List ℕ) → Consumes (Some input) mid m.bytes → IsWholeText mid new text → Consumes (Some input) new input
  all_read None new text of_module of = absurd of_module
  all_read (Some rest) None text of_module of = absurd of.read
  all_read (Some rest) (Some left) text of_module of = sym (append-nil input) ∙ ap (λ (t : List ℕ). input ++ t) (sym of.all)

  -- a text that was read whole, and its outcome
  module _ (mid new : Option (List ℕ)) (text : List ℕ) (of_module : Consumes (Some input) mid m.bytes) (of : IsWholeText mid new text) where
    has_outcome : (r : Result (List ℕ) RunFault) → reloc_outcome profile_limits (recs (records_in m.bytes)) text ≡ r → HasOutcome profile input r
    has_outcome r is = with_outcome text r (whole mid new text of_module of) is

    whole_answered : (r : Result (List ℕ) RunFault) → IsOutcome (recs (records_in m.bytes)) text r → IsAnswered profile input (Some input) new r
    whole_answered (Ok shown) is = (has_outcome (Ok shown) is, all_read mid new text of_module of)
    whole_answered (Err fault.Memory) is = (tt, no_more mid new of_module (text, of.read, of.short))
    whole_answered (Err (fault.Line n)) is = (has_outcome (Err (fault.Line n)) is, all_read mid new text of_module of)
    whole_answered (Err (fault.Reach f)) is = (has_outcome (Err (fault.Reach f)) is, all_read mid new text of_module of)
    whole_answered (Err fault.TooLong) is = absurd (never_long (recs (records_in m.bytes)) text of.short is)
    whole_answered (Err fault.Read) is = absurd is
    whole_answered (Err fault.Write) is = absurd is
    whole_answered (Err (fault.Refused why at)) is = absurd is

  -- the outcome for the text is the answer to the input
  pub text_answered : (old mid new : Option (List ℕ)) (text given : List ℕ) (r : Result (List ℕ) RunFault) → old ≡ Some input → Consumes old mid m.bytes → IsWholeText mid new text → given ≡ text
      → IsOutcome (recs (records_in m.bytes)) given r → IsAnswered profile input old new r
  text_answered old mid new text given r told of_module of same is =
      subst (λ (o : Option (List ℕ)). IsAnswered profile input o new r) (sym told)
      (whole_answered mid new text (subst (λ (o : Option (List ℕ)). Consumes o mid m.bytes) told of_module) of r
      (subst (λ (t : List ℕ). IsOutcome (recs (records_in m.bytes)) t r) same is))

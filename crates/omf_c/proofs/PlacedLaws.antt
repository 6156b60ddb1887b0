-- What is shown of a module at a placement.
use Rattle.std.proofs.Common.{◌≡◌, ℕ, List, ap, ap₂, ◌∙◌, length, Result, Ok, Err, Some, None}
use Rattle.std.specs.Prelude.{Option}
use Rattle.omf_frame.specs.Framing.{Raw}
use Rattle.omf_records.specs.Values.{Rec}
use Rattle.omf_image.specs.Inner.Joined.{runs_of}
use Rattle.omf_image.specs.Limits.{profile_limits}
use Rattle.omf_image.specs.Overlay.{Laid, byte_at}
use Rattle.omf_check.specs.Tables.{segments}
use Rattle.omf_placement.specs.Placement.{Places}
use Rattle.omf_reloc.specs.Headline.{IsRelocated}
use Rattle.omf_reloc.specs.Image.{laid}
use Rattle.omf_reloc.specs.Plain.{pieces}
use Rattle.omf_reloc.specs.Reach.{reach_fault}
use Rattle.omf_reloc.specs.declared.fault.ReachFault.{ReachFault}
use Rattle.omf_check.specs.Module.{Module, records_in}
use Rattle.omf_check.specs.WellFormed.{recs}
use Rattle.omf_check.specs.declared.profile.Profile.{Profile}
use Rattle.omf_cmd.specs.Relocating.{IsPlaced}
use Rattle.omf_cmd.specs.declared.fault.RunFault.{RunFault}
use Rattle.omf_cmd.specs.declared.fault.RunFault.TheVariants as fault
use Rattle.omf_c.specs.Images.{IsMadeAt, IsMadeOf, relocated}
use Rattle.omf_c.specs.Making.{IsModule}
use Rattle.omf_c.specs.Placed.{IsMadeFor, IsMadeWith}
use Rattle.omf_c.specs.Runs.{Shown, shown_of}
use Rattle.omf_c.proofs.ImageLaws.{overlay_shown}

-- the image and the start of an answer are the defined ones
pub relocated_is : (records : List Raw) (pl : Places) (image : List Laid) (count : ℕ) (begin : Option (ℕ × ℕ)) → IsRelocated pl records (byte_at image) begin → count ≡ length (segments (recs records))
    → (shown_of count (byte_at image) (runs_of image), begin) ≡ relocated pl (recs records)
relocated_is records pl image count begin is counted =
    let pieces_laid = laid profile_limits pl (pieces (recs records)) in
    ap₂ (λ (s : Shown) (b : Option (ℕ × ℕ)). (s, b))
    (overlay_shown pieces_laid image count is.bytes ∙ ap (λ (n : ℕ). shown_of n (byte_at pieces_laid) (runs_of pieces_laid)) counted)
    is.begins

-- what is made at a placement that a text gives
pub by_text : {A : Type 0} (make : Places → List Rec → A) (m : List Rec) (given : List ℕ) (pl : Places) (r : Result A RunFault) → IsPlaced m given (Ok pl) → IsMadeFor make pl m r → IsMadeAt make m given r
by_text make m given pl (Ok made) placed h = (pl, record { short = placed.0; placement = placed.1; reach = h.0 }, h.1)
by_text make m given pl (Err fault.Memory) placed h = tt
by_text make m given pl (Err fault.Read) placed h = h
by_text make m given pl (Err fault.Write) placed h = h
by_text make m given pl (Err (fault.Refused why at)) placed h = h
by_text make m given pl (Err (fault.Line n)) placed h = absurd h
by_text make m given pl (Err fault.TooLong) placed h = absurd h
by_text make m given pl (Err (fault.Reach f)) placed h = (pl, record { short = placed.0; placement = placed.1; reach = h })

-- a fault of the text
pub not_placed : {A : Type 0} (make : Places → List Rec → A) (m : List Rec) (given : List ℕ) (e : RunFault) → IsPlaced m given (Err e) → IsMadeAt make m given (Err e)
not_placed make m given fault.Memory h = tt
not_placed make m given fault.Read h = h
not_placed make m given fault.Write h = h
not_placed make m given (fault.Refused why at) h = h
not_placed make m given (fault.Line n) h = h
not_placed make m given fault.TooLong h = h
not_placed make m given (fault.Reach f) h = absurd h

-- the same of the module at the start of the bytes
pub made_of : {A : Type 0} (make : Places → List Rec → A) (profile : Profile) (bytes given : List ℕ) (m : Module) (r : Result A RunFault) → IsModule profile bytes (Ok m) → IsMadeAt make (recs (records_in m.bytes)) given r → IsMadeOf make profile bytes given r
made_of make profile bytes given m (Ok made) is h = (records_in m.bytes, is.0, h)
made_of make profile bytes given m (Err fault.Memory) is h = tt
made_of make profile bytes given m (Err fault.Read) is h = absurd h
made_of make profile bytes given m (Err fault.Write) is h = absurd h
made_of make profile bytes given m (Err (fault.Refused why at)) is h = absurd h
made_of make profile bytes given m (Err (fault.Line n)) is h = (records_in m.bytes, is.0, h)
made_of make profile bytes given m (Err fault.TooLong) is h = (records_in m.bytes, is.0, h)
made_of make profile bytes given m (Err (fault.Reach f)) is h = (records_in m.bytes, is.0, h)

-- what is made of what was made
pub made_from : {A B : Type 0} (make : Places → List Rec → A) (f : A → B) (profile : Profile) (bytes given : List ℕ) (a : A) (b : B) → IsMadeOf make profile bytes given (Ok a) → b ≡ f a
    → IsMadeOf (λ pl m. f (make pl m)) profile bytes given (Ok b)
made_from make f profile bytes given a b h e = (h.0, h.1, (h.2.0, h.2.1, e ∙ ap f h.2.2))

-- a fault is the same, whatever is made
pub not_made : {A B : Type 0} (make : Places → List Rec → A) (other : Places → List Rec → B) (profile : Profile) (bytes given : List ℕ) (e : RunFault) → IsMadeOf make profile bytes given (Err e) → IsMadeOf other profile bytes given (Err e)
not_made make other profile bytes given fault.Memory h = h
not_made make other profile bytes given fault.Read h = h
not_made make other profile bytes given fault.Write h = h
not_made make other profile bytes given (fault.Refused why at) h = h
not_made make other profile bytes given (fault.Line n) h = h
not_made make other profile bytes given fault.TooLong h = h
not_made make other profile bytes given (fault.Reach f) h = h

-- the same at a placement that rows give
pub made_with : {A : Type 0} (make : Places → List Rec → A) (profile : Profile) (bytes : List ℕ) (pl : Places) (m : Module) (r : Result A RunFault) → IsModule profile bytes (Ok m) → IsMadeFor make pl (recs (records_in m.bytes)) r → IsMadeWith make profile bytes pl r
made_with make profile bytes pl m (Ok made) is h = (records_in m.bytes, is.0, h)
made_with make profile bytes pl m (Err fault.Memory) is h = tt
made_with make profile bytes pl m (Err fault.Read) is h = absurd h
made_with make profile bytes pl m (Err fault.Write) is h = absurd h
made_with make profile bytes pl m (Err (fault.Refused why at)) is h = absurd h
made_with make profile bytes pl m (Err (fault.Line n)) is h = absurd h
made_with make profile bytes pl m (Err fault.TooLong) is h = absurd h
made_with make profile bytes pl m (Err (fault.Reach f)) is h = (records_in m.bytes, is.0, h)

pub made_with_from : {A B : Type 0} (make : Places → List Rec → A) (f : A → B) (profile : Profile) (bytes : List ℕ) (pl : Places) (a : A) (b : B) → IsMadeWith make profile bytes pl (Ok a) → b ≡ f a
    → IsMadeWith (λ pl m. f (make pl m)) profile bytes pl (Ok b)
made_with_from make f profile bytes pl a b h e = (h.0, h.1, (h.2.0, e ∙ ap f h.2.1))

pub not_made_with : {A B : Type 0} (make : Places → List Rec → A) (other : Places → List Rec → B) (profile : Profile) (bytes : List ℕ) (pl : Places) (e : RunFault) → IsMadeWith make profile bytes pl (Err e) → IsMadeWith other profile bytes pl (Err e)
not_made_with make other profile bytes pl fault.Memory h = h
not_made_with make other profile bytes pl fault.Read h = h
not_made_with make other profile bytes pl fault.Write h = h
not_made_with make other profile bytes pl (fault.Refused why at) h = h
not_made_with make other profile bytes pl (fault.Line n) h = h
not_made_with make other profile bytes pl fault.TooLong h = h
not_made_with make other profile bytes pl (fault.Reach f) h = h

-- The image of a module at a placement as runs and their bytes (this profile's rule).
use Rattle.std.specs.Prelude.{◌≡◌, ◌⊎◌, ◌≤◌, ◌<◌, ⊤, ℕ, List, [], ◌∷◌, ◌++◌, drop, length, Option, None, Some, Result, Ok, Err}
use Rattle.omf_frame.specs.Framing.{Raw}
use Rattle.omf_records.specs.Values.{Rec}
-- computed: runs_are_maximal of omf_image.
use Rattle.omf_image.specs.Inner.Joined.{runs_of}
use Rattle.omf_image.specs.Limits.{profile_limits}
use Rattle.omf_check.specs.Tables.{segments}
use Rattle.omf_check.specs.WellFormed.{IsAccepted, recs}
use Rattle.omf_check.specs.declared.profile.Profile.{Profile}
use Rattle.omf_placement.specs.Placement.{Places}
use Rattle.omf_placement.specs.PlacementText.{parsed}
use Rattle.omf_reloc.specs.Image.{image, laid, start}
use Rattle.omf_reloc.specs.Plain.{pieces}
use Rattle.omf_reloc.specs.Reach.{reach_fault}
use Rattle.omf_reloc.specs.declared.fault.ReachFault.{ReachFault}
use Rattle.omf_cmd.specs.Outcome.{placement_of, text_limit}
use Rattle.omf_cmd.specs.declared.fault.RunFault.{RunFault}
use Rattle.omf_cmd.specs.declared.fault.RunFault.TheVariants as fault
use Rattle.omf_c.specs.Answers.{done, of_fault}
use Rattle.omf_c.specs.Making.{IsNoModule}
use Rattle.omf_c.specs.Runs.{Shown, shown_of}
use Rattle.omf_c.specs.declared.answer.Answer.{Answer}
use Rattle.omf_c.specs.declared.rows.RunRow.{RunRow}
use Rattle.omf_c.specs.declared.rows.StartRow.{StartRow}

-- The image of a module at a placement: its maximal covered intervals, by segment and in rising order.
abbrev pub image_shown : Places → List Rec → Shown
image_shown pl m = shown_of (length (segments m)) (image profile_limits pl m) (runs_of (laid profile_limits pl (pieces m)))

-- The same with its start.
abbrev pub relocated : Places → List Rec → Shown × Option (ℕ × ℕ)
relocated pl m = (image_shown pl m, start pl m)

-- A text gives a module this placement, which has this fault of reach, if any.
pub record IsPlacedBy (m : List Rec) (given : List ℕ) (pl : Places) (far : Option ReachFault) : Type 0 where
  pub short : length given ≤ text_limit
  pub placement : placement_of m (parsed given) ≡ Ok pl
  pub reach : reach_fault pl m ≡ far

-- What is made of a module at the placement that a text gives, or the first fault of the text or the placement. Memory may run out at any
-- time.
abbrev pub IsMadeAt : {A : Type 0} → (Places → List Rec → A) → List Rec → List ℕ → Result A RunFault → Type 0
IsMadeAt make m given (Ok made) = (pl : Places) × IsPlacedBy m given pl None × (made ≡ make pl m)
IsMadeAt make m given (Err fault.Memory) = ⊤
IsMadeAt make m given (Err fault.Read) = ⊥
IsMadeAt make m given (Err fault.Write) = ⊥
IsMadeAt make m given (Err (fault.Refused why at)) = ⊥
IsMadeAt make m given (Err (fault.Line n)) = (length given ≤ text_limit) × (placement_of m (parsed given) ≡ Err n)
IsMadeAt make m given (Err fault.TooLong) = text_limit < length given
IsMadeAt make m given (Err (fault.Reach f)) = (pl : Places) × IsPlacedBy m given pl (Some f)

-- The same for the module at the start of some bytes.
abbrev pub HasMade : {A : Type 0} → (Places → List Rec → A) → Profile → List ℕ → List ℕ → Result A RunFault → Type 0
HasMade make profile bytes given r = (records : List Raw) × IsAccepted profile profile_limits bytes records × IsMadeAt make (recs records) given r

abbrev pub IsMadeOf : {A : Type 0} → (Places → List Rec → A) → Profile → List ℕ → List ℕ → Result A RunFault → Type 0
IsMadeOf make profile bytes given (Ok made) = HasMade make profile bytes given (Ok made)
IsMadeOf make profile bytes given (Err (fault.Line n)) = HasMade make profile bytes given (Err (fault.Line n))
IsMadeOf make profile bytes given (Err fault.TooLong) = HasMade make profile bytes given (Err fault.TooLong)
IsMadeOf make profile bytes given (Err (fault.Reach f)) = HasMade make profile bytes given (Err (fault.Reach f))
IsMadeOf make profile bytes given (Err f) = IsNoModule profile bytes f

-- The start as a table of one row, or of none.
abbrev pub start_row : ℕ × ℕ → StartRow
start_row s = record { selector = s.0; offset = s.1 }

abbrev pub rows_if : Option (ℕ × ℕ) → List StartRow
rows_if None = []
rows_if (Some s) = start_row s ∷ []

abbrev pub start_rows : Places → List Rec → List StartRow
start_rows pl m = rows_if (start pl m)

-- The result for an image, with the number of its bytes and of its runs.
abbrev pub sizes : ℕ → Shown → Answer
sizes status s = record done { status = status; size = length s.bytes; record_count = length s.runs }

-- What a buffer holds after this was written to its start.
abbrev pub over : {A : Type 0} → List A → List A → List A
over made old = made ++ drop (length made) old

-- An image that fits both buffers is at their starts; if its runs or its bytes do not fit, both buffers are unchanged.
abbrev pub HandsBoth : Shown → Answer → List RunRow × List ℕ → List RunRow × List ℕ → Type 0
HandsBoth s answer old new =
    ((length s.runs ≤ length old.0) × (length s.bytes ≤ length old.1) × (answer ≡ sizes 0 s) × (new.0 ≡ over s.runs old.0) × (new.1 ≡ over s.bytes old.1))
    ⊎ (((length old.0 < length s.runs) ⊎ (length old.1 < length s.bytes)) × (answer ≡ sizes 8 s) × (new.0 ≡ old.0) × (new.1 ≡ old.1))

-- The result for an image, or for the fault in its place. A fault leaves the buffers unchanged.
abbrev pub ShowsImage : Result Shown RunFault → Answer → List RunRow × List ℕ → List RunRow × List ℕ → Type 0
ShowsImage (Ok s) answer old new = HandsBoth s answer old new
ShowsImage (Err f) answer old new = (answer ≡ of_fault f) × (new.0 ≡ old.0) × (new.1 ≡ old.1)

-- A call made an image or a fault, and returned the result for it.
abbrev pub IsImageAnswered : Profile → List ℕ → List ℕ → Answer → List RunRow × List ℕ → List RunRow × List ℕ → Type 0
IsImageAnswered profile bytes given answer old new = (made : Result Shown RunFault) × IsMadeOf image_shown profile bytes given made × ShowsImage made answer old new

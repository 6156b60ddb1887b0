-- What `reloc` answers for an input: a module, and a placement text to the end.
use Rattle.omf_cmd.specs.Relocated.{image_text}
use Rattle.std.specs.Prelude.{◌≡◌, ◌⊎◌, ◌≤◌, ◌<◌, ⊤, ℕ, ◌+◌, List, [], length, Option, Some, Result, Ok, Err, IsOk}
use Rattle.std.specs.Io.KnownBytes.{Consumes, IsAtEnd}
use Rattle.omf_frame.specs.Device.{Device}
use Rattle.omf_frame.specs.Framing.{Raw}
use Rattle.omf_records.specs.Values.{Rec}
use Rattle.omf_image.specs.Limits.{profile_limits}
-- computed: runs_are_maximal of omf_image.
use Rattle.omf_image.specs.Inner.Joined.{runs_of}
use Rattle.omf_image.specs.Overlay.{byte_at}
use Rattle.omf_check.specs.Refusal.{IsRefused}
use Rattle.omf_check.specs.Tables.{segments}
use Rattle.omf_check.specs.WellFormed.{IsAccepted, recs}
use Rattle.omf_check.specs.declared.profile.Profile.{Profile}
use Rattle.omf_placement.specs.declared.fault.TextFault.{TextFault}
use Rattle.omf_placement.specs.declared.fault.TextFault.TheVariants as text
use Rattle.omf_placement.specs.Placement.{Places}
use Rattle.omf_placement.specs.PlacementText.{parsed}
use Rattle.omf_reloc.specs.Headline.{IsAnswerAt}
use Rattle.omf_reloc.specs.Reach.{Reaches}
use Rattle.omf_reloc.specs.declared.headline.AnswerAt.{AnswerAt}
use Rattle.omf_reloc.specs.declared.headline.AnswerAt.TheVariants as at
use Rattle.omf_cmd.specs.HowFar.{IsReadFor}
use Rattle.omf_cmd.specs.Outcome.{placement_of, reloc_outcome, text_limit}
use Rattle.omf_cmd.specs.Runs.{PrintsInPieces}
use Rattle.omf_cmd.specs.declared.fault.RunFault.{RunFault}
use Rattle.omf_cmd.specs.declared.fault.RunFault.TheVariants as fault

-- The text read is the rest of the input, within the limit.
pub record IsWholeText (old new : Option (List ℕ)) (text : List ℕ) : Type 0 where
  pub read : Consumes old new text
  pub all : IsAtEnd new
  pub short : length text ≤ text_limit

-- A part of the text was read, within the limit.
abbrev pub IsShortText : Option (List ℕ) → Option (List ℕ) → Type 0
IsShortText old new = (read : List ℕ) × Consumes old new read × (length read ≤ text_limit)

-- Why the text was not read: one byte beyond the limit was read; or the reader failed or memory ran out before that.
abbrev pub IsTextFault : Option (List ℕ) → Option (List ℕ) → RunFault → Type 0
IsTextFault old new fault.TooLong = (read : List ℕ) × Consumes old new read × (length read ≡ text_limit + 1)
IsTextFault old new fault.Read = IsShortText old new
IsTextFault old new fault.Memory = IsShortText old new
IsTextFault old new _ = ⊥

-- The input begins with a module, and this is the outcome for it and the text after it.
pub record HasOutcome (profile : Profile) (input : List ℕ) (outcome : Result (List ℕ) RunFault) : Type 0 where
  pub records : List Raw
  pub accepted : IsAccepted profile profile_limits input records
  pub is : reloc_outcome profile_limits (recs records) accepted.rest ≡ outcome

-- The outcome for a module and a placement text: the text to print, or the first fault. Memory runs out only if the text is not too long and
-- each of its lines is empty or an entry. No device is involved.
abbrev pub IsOutcome : List Rec → List ℕ → Result (List ℕ) RunFault → Type 0
IsOutcome m given (Ok text) = reloc_outcome profile_limits m given ≡ Ok text
IsOutcome m given (Err fault.Memory) = (length given ≤ text_limit) × IsOk (parsed given)
IsOutcome m given (Err fault.Read) = ⊥
IsOutcome m given (Err fault.Write) = ⊥
IsOutcome m given (Err (fault.Refused why at)) = ⊥
IsOutcome m given (Err (fault.Line n)) = reloc_outcome profile_limits m given ≡ Err (fault.Line n)
IsOutcome m given (Err fault.TooLong) = reloc_outcome profile_limits m given ≡ Err fault.TooLong
IsOutcome m given (Err (fault.Reach f)) = reloc_outcome profile_limits m given ≡ Err (fault.Reach f)

-- The answer to an input: the text to print, or the first fault of the module, the text or the placement. Memory may run out and the reader
-- may fail at any time; the writer takes no part.
abbrev pub Answers : Profile → List ℕ → Result (List ℕ) RunFault → Type 0
Answers profile input (Err fault.Memory) = ⊤
Answers profile input (Err fault.Read) = ⊤
Answers profile input (Err fault.Write) = ⊥
Answers profile input (Err (fault.Refused why at)) = IsRefused profile profile_limits input why at
Answers profile input outcome = HasOutcome profile input outcome

-- The answer to an input, and how far it is read.
abbrev pub IsAnswered : Profile → List ℕ → Option (List ℕ) → Option (List ℕ) → Result (List ℕ) RunFault → Type 0
IsAnswered profile input old new answer = Answers profile input answer × IsReadFor profile input old new answer

-- The result of a run over an input, with the text to print. If memory ran out, that is the same text, or it is empty, so that nothing was
-- printed.
abbrev pub Relocates : Profile → List ℕ → Option (List ℕ) → Option (List ℕ) → List ℕ → Result (Unit {0}) RunFault → Type 0
Relocates profile input old new text (Ok done) = IsAnswered profile input old new (Ok text)
Relocates profile input old new text (Err fault.Write) = IsAnswered profile input old new (Ok text)
Relocates profile input old new text (Err fault.Memory) = IsAnswered profile input old new (Ok text) ⊎ ((text ≡ []) × IsAnswered profile input old new (Err fault.Memory))
Relocates profile input old new text (Err e) = IsAnswered profile input old new (Err e)

-- The result of a run, and what it reads and writes.
abbrev pub IsRelocation : Profile → Device → Device → Device → Device → Result (Unit {0}) RunFault → Type 0
IsRelocation profile reader reader' writer writer' ran =
    (text : List ℕ) × PrintsInPieces writer.bytes writer'.bytes ran text × ((input : List ℕ) → reader.bytes ≡ Some input → Relocates profile input reader.bytes reader'.bytes text ran)

-- Converts a fault of a placement text.
abbrev pub of_text : TextFault → RunFault
of_text text.Memory = fault.Memory
of_text (text.Line n) = fault.Line n

-- The placement that a text gives a module, or the first fault of the text: it is too long, or this line is at fault. Memory runs out only if the
-- text is not too long and each of its lines is empty or an entry.
abbrev pub IsPlaced : List Rec → List ℕ → Result Places RunFault → Type 0
IsPlaced m given (Ok pl) = (length given ≤ text_limit) × (placement_of m (parsed given) ≡ Ok pl)
IsPlaced m given (Err (fault.Line n)) = (length given ≤ text_limit) × (placement_of m (parsed given) ≡ Err n)
IsPlaced m given (Err fault.TooLong) = text_limit < length given
IsPlaced m given (Err fault.Memory) = (length given ≤ text_limit) × IsOk (parsed given)
IsPlaced m given (Err _) = ⊥

-- The text of an answer for a module with this number of segments: the runs of its image and its start; or the reason why it does not reach.
abbrev pub listing_of : ℕ → AnswerAt → Result (List ℕ) RunFault
listing_of segments (at.Relocated image begin) = Ok (image_text segments (byte_at image) (runs_of image) begin)
listing_of segments (at.DoesNotReach f) = Err (fault.Reach f)

-- The text of the answer to a module and a placement. Memory runs out only if the placement reaches.
abbrev pub IsListingAt : Places → List Raw → Result (List ℕ) RunFault → Type 0
IsListingAt pl records (Err fault.Memory) = Reaches pl (recs records)
IsListingAt pl records listed = (answer : AnswerAt) × IsAnswerAt pl records answer × (listed ≡ listing_of (length (segments (recs records))) answer)

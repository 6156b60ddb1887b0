-- A run of `omf-place`: its result, and what it reads and writes.
use Rattle.std.specs.Prelude.{◌≡◌, ◌⊎◌, ℕ, List, false, Option, Some, None, Result, Ok, Err}
use Rattle.omf_frame.specs.Device.{Device}
use Rattle.omf_frame.specs.Framing.{Raw}
use Rattle.omf_image.specs.Limits.{profile_limits}
use Rattle.omf_check.specs.Checking.{IsUndecided}
use Rattle.omf_check.specs.Refusal.{IsRefused}
use Rattle.omf_check.specs.WellFormed.{recs}
use Rattle.omf_check.specs.declared.profile.Profile.{Profile}
use Rattle.omf_drafting.specs.Suiting.{module_options}
use Rattle.omf_drafting.specs.declared.options.AskedOptions.{AskedOptions}
use Rattle.omf_layout.specs.Layout.{layout_of}
use Rattle.omf_cmd.specs.HowFar.{EndsAtRefusal, IsReadFrom, IsUnrefused}
use Rattle.omf_cmd.specs.Reports.{IsModuleFault}
use Rattle.omf_cmd.specs.Runs.{IsReadCause, IsUnbroken, PrintsOr}
use Rattle.omf_cmd.specs.declared.fault.RunFault.TheVariants as run
use Rattle.omf_drafting.specs.Place.Drafts.{IsDraft}
use Rattle.omf_drafting.specs.declared.place.fault.PlaceFault.{PlaceFault}
use Rattle.omf_drafting.specs.declared.place.fault.PlaceFault.TheVariants as fault

-- The profile: comments of all classes are accepted.
abbrev pub any : Profile
any = record { refuse_vendor_comments = false }

-- The input begins with a module, exactly its bytes were read, and this is its draft.
pub record HasDraft (o : AskedOptions) (input : List ℕ) (old new : Option (List ℕ)) (text : List ℕ) : Type 0 where
  pub records : List Raw
  pub read : IsReadFrom any input records old new
  pub draft : IsDraft (module_options (recs records) o) (recs records) text

-- The same, but the module has no room.
pub record HasNoRoom (o : AskedOptions) (input : List ℕ) (old new : Option (List ℕ)) : Type 0 where
  pub records : List Raw
  pub read : IsReadFrom any input records old new
  pub none : layout_of (module_options (recs records) o) (recs records) ≡ None

-- The result for an input, and how far it is read. If memory ran out or the reader failed, nothing that was read is refused.
abbrev pub Drafts : AskedOptions → List ℕ → Option (List ℕ) → Option (List ℕ) → Result (List ℕ) PlaceFault → Type 0
Drafts o input old new (Ok text) = HasDraft o input old new text
Drafts o input old new (Err fault.NoRoom) = HasNoRoom o input old new
Drafts o input old new (Err (fault.Run (run.Refused why at))) = IsRefused any profile_limits input why at × EndsAtRefusal any old new why at
Drafts o input old new (Err (fault.Run run.Memory)) = IsUnrefused any old new ⊎ ((records : List Raw) × IsReadFrom any input records old new)
Drafts o input old new (Err (fault.Run run.Read)) = IsUndecided any old new
Drafts o input old new (Err (fault.Run _)) = ⊥

-- The fault names the reader if it failed; otherwise the reader did not break. No fault of a placement is possible.
abbrev pub IsDraftCause : Device → Device → Result (List ℕ) PlaceFault → Type 0
IsDraftCause old new (Ok text) = IsUnbroken old new
IsDraftCause old new (Err fault.NoRoom) = IsUnbroken old new
IsDraftCause old new (Err (fault.Run f)) = IsReadCause {A = List ℕ} old new (Err f) × IsModuleFault f

-- A run: what it drafted of its input, and what it wrote of that. A text is written whole, or in part if the writer failed. Nothing is
-- written of a fault.
pub record IsRun (o : AskedOptions) (reader reader' writer writer' : Device) (ran : Result (Unit {0}) PlaceFault) : Type 0 where
  pub drafted : Result (List ℕ) PlaceFault
  pub cause : IsDraftCause reader reader' drafted
  pub drafts : (input : List ℕ) → reader.bytes ≡ Some input → Drafts o input reader.bytes reader'.bytes drafted
  pub printed : PrintsOr (fault.Run run.Write) writer writer' drafted ran

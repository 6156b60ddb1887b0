-- Laws of the definitions, each the contract of a function of the same name.
use Rattle.std.specs.Prelude.{◌≡◌, ◌≢◌, ◌⊎◌, ◌↔◌, ◌<◌, ◌≤◌, ℕ, Bool, false, IsTrue, List, [], ◌∷◌, ◌++◌, map, flat_map, drop}
use Rattle.std.specs.Option.{option_or}
use Rattle.omf_frame.specs.Bytes.{AreBytes, bits}
use Rattle.omf_frame.specs.Framing.{Raw, raw_bytes, is_end_of_input}
use Rattle.omf_frame.specs.declared.fault.Place.{Place}
use Rattle.omf_frame.specs.declared.fault.Reason.{Reason}
use Rattle.omf_frame.specs.declared.fault.Reason.TheVariants as reason
use Rattle.omf_image.specs.declared.limits.Limits.{Limits}
use Rattle.omf_records.specs.Values.{At, Subrecord, Reference}
-- computed: cells_are_threads of omf_check.
use Rattle.omf_check.specs.Inner.Cells.{cells_after}
-- computed: threads_are_kept of omf_check.
use Rattle.omf_check.specs.Inner.Judging.{frame_cell, target_cell}
-- computed: threads_are_kept of omf_check.
use Rattle.omf_check.specs.Inner.Kept.{HasThreads, no_threads, set_thread, set_threads}
use Rattle.omf_check.specs.Refusal.{IsRefused, AreSoundSoFar, EndsWhereJudged}
use Rattle.omf_check.specs.Sound.{ModuleHolds}
use Rattle.omf_check.specs.Threads.{setting_of, thread, frame_of, target_of}
-- computed: verdicts_decide of omf_check.
use Rattle.omf_check.specs.Inner.Verdict.{Verdict, Accepted, Refused, Unknown, verdict}
use Rattle.omf_check.specs.WellFormed.{IsAccepted, IsWellFormed, recs}
use Rattle.omf_check.specs.declared.profile.Profile.{Profile}
use Rattle.omf_check.specs.declared.threads.Threads.{Threads}

-- A refusal other than NoEnd and Cut remains, whatever follows the input.
abbrev pub RefusalsStay : Type 0
RefusalsStay = (profile : Profile) (limits : Limits) (input more : List ℕ) (why : Reason) (at : Place) → why ≢ reason.NoEnd → why ≢ reason.Cut
    → IsRefused profile limits input why at → IsRefused profile limits (input ++ more) why at

-- An input is refused for at most one reason, at one place.
abbrev pub RefusalsAreUnique : Type 0
RefusalsAreUnique = (profile : Profile) (limits : Limits) (input : List ℕ) (why other : Reason) (at there : Place)
    → IsRefused profile limits input why at → IsRefused profile limits input other there → (why ≡ other) × (at ≡ there)

-- No input is both accepted and refused.
abbrev pub NeverBoth : Type 0
NeverBoth = (profile : Profile) (limits : Limits) (input : List ℕ) (records : List Raw) (why : Reason) (at : Place)
    → IsAccepted profile limits input records → IsRefused profile limits input why at → ⊥

-- At most one prefix of an input is accepted, as one list of records.
abbrev pub ModulesAreUnique : Type 0
ModulesAreUnique = (profile : Profile) (limits : Limits) (input : List ℕ) (rs ss : List Raw) (a : IsAccepted profile limits input rs) (b : IsAccepted profile limits input ss)
    → (rs ≡ ss) × (a.bytes ≡ b.bytes)

-- Every input is accepted or refused.
abbrev pub IsEither : Type 0
IsEither = (profile : Profile) (limits : Limits) (input : List ℕ) → AreBytes input
    → ((records : List Raw) × IsAccepted profile limits input records) ⊎ ((why : Reason) × (at : Place) × IsRefused profile limits input why at)

-- The computed verdict accepts an input with these records, or refuses it for this reason at this place, exactly if the definitions do.
abbrev pub VerdictsDecide : Type 0
VerdictsDecide = (profile : Profile) (limits : Limits) (input : List ℕ) → AreBytes input
    → ((records : List Raw) → (verdict profile limits input ≡ Accepted records) ↔ IsAccepted profile limits input records)
    × ((why : Reason) (at : Place) → (verdict profile limits input ≡ Refused why at) ↔ IsRefused profile limits input why at)

-- The verdict on bytes that are a module and nothing more, or that end too early for one.
abbrev pub SaysSound : List ℕ → Verdict → Type 0
SaysSound bytes (Accepted records) = flat_map raw_bytes records ≡ bytes
SaysSound bytes (Refused why at) = IsTrue (is_end_of_input why)
SaysSound bytes Unknown = ⊥

-- The bytes have no refusal other than for ending too early, and nothing follows their module.
abbrev pub IsUnrefused : Profile → Limits → List ℕ → Type 0
IsUnrefused profile limits bytes =
    ((why : Reason) (at : Place) → IsRefused profile limits bytes why at → IsTrue (is_end_of_input why))
    × ((records : List Raw) (a : IsAccepted profile limits bytes records) → a.rest ≡ [])

-- Bytes are sound so far exactly if they have no refusal other than for ending too early and nothing follows their module; and exactly if their verdict shows this.
abbrev pub SoundBytesAreDecided : Type 0
SoundBytesAreDecided = (profile : Profile) (limits : Limits) (bytes : List ℕ) → AreBytes bytes
    → (AreSoundSoFar profile limits bytes ↔ IsUnrefused profile limits bytes)
    × (AreSoundSoFar profile limits bytes ↔ SaysSound bytes (verdict profile limits bytes))

-- No shorter prefix of the bytes has a refusal other than for ending too early.
abbrev pub NoneShorter : Profile → Limits → List ℕ → Type 0
NoneShorter profile limits bytes = (front back : List ℕ) (b : ℕ) → bytes ≡ front ++ b ∷ back → AreSoundSoFar profile limits front

-- A refusal other than NoEnd and Cut is decided by a prefix of the input: it ends where its record is refused, and has this refusal
-- whatever follows. Refused bytes end at that place exactly if the refusal is neither NoEnd nor Cut and no shorter prefix of them is
-- refused for another reason than these two.
abbrev pub RefusalsAreJudged : Type 0
RefusalsAreJudged = (profile : Profile) (limits : Limits) (input : List ℕ) (why : Reason) (at : Place) → AreBytes input → IsRefused profile limits input why at
    → (is_end_of_input why ≡ false → (read : List ℕ) × (rest : List ℕ) × (input ≡ read ++ rest) × EndsWhereJudged why (drop at.start read)
    × ((more : List ℕ) → IsRefused profile limits (read ++ more) why at))
    × (EndsWhereJudged why (drop at.start input) ↔ ((is_end_of_input why ≡ false) × NoneShorter profile limits input))

-- After any subrecords the cells are the threads found by a search backward; one more subrecord sets the cell of its kind and number;
-- and every number is below 4, so there are eight cells.
abbrev pub CellsAreThreads : Type 0
CellsAreThreads = ((subs : List Subrecord) (is_frame : Bool) (k : ℕ) → cells_after subs is_frame k ≡ thread is_frame k subs)
    × ((subs : List Subrecord) (s : Subrecord) (is_frame : Bool) (k : ℕ) → thread is_frame k (subs ++ s ∷ []) ≡ option_or (setting_of is_frame k s) (thread is_frame k subs))
    × ((byte : ℕ) → (bits byte 0 2) < 4)

-- A module that is well-formed with some limits on blocks is well-formed with all larger limits.
abbrev pub LimitsMayGrow : Type 0
LimitsMayGrow = (profile : Profile) (small large : Limits) (bytes : List ℕ) (records : List Raw) → small.nesting ≤ large.nesting → small.expanded ≤ large.expanded
    → IsWellFormed profile small bytes records → IsWellFormed profile large bytes records

-- No record of a well-formed module refers to a thread, an entry, data or a byte that is missing; only its last record is a MODEND.
abbrev pub ModulesHold : Type 0
ModulesHold = (profile : Profile) (limits : Limits) (bytes : List ℕ) (records : List Raw) → IsWellFormed profile limits bytes records → ModuleHolds limits (recs records)

-- The threads kept are always those in force: at the start, after one more subrecord, after the subrecords of a FIXUPP; and they give a reference its frame and its target.
pub record ThreadsAreKept : Type 0 where
  pub none : HasThreads no_threads []
  pub one : (threads : Threads) (subs : List Subrecord) (s : Subrecord) → HasThreads threads subs → HasThreads (set_thread threads s) (subs ++ s ∷ [])
  pub all : (threads : Threads) (done : List Subrecord) (subs : List (At Subrecord)) → HasThreads threads done → HasThreads (set_threads threads subs) (done ++ map (λ s. s.item) subs)
  pub frame : (threads : Threads) (subs : List Subrecord) (r : Reference) → HasThreads threads subs → frame_cell threads r ≡ frame_of subs r
  pub target : (threads : Threads) (subs : List Subrecord) (r : Reference) → HasThreads threads subs → target_cell threads r ≡ target_of subs r

-- A run of `omf-place`, from its steps.
use Rattle.std.proofs.Common.{ℕ, List, Result, Ok, Err, inl, inr}
use Rattle.std.specs.Prelude.{Option}
use Rattle.omf_frame.specs.Device.{Device}
use Rattle.omf_frame.specs.Framing.{Raw}
use Rattle.omf_check.specs.Checking.{Decides, IsCheckFault}
use Rattle.omf_check.specs.WellFormed.{recs}
use Rattle.omf_check.specs.declared.fault.CheckFault.{CheckFault}
use Rattle.omf_check.specs.declared.fault.CheckFault.TheVariants as check
use Rattle.omf_records.specs.Values.{Rec}
use Rattle.omf_layout.specs.Layout.{IsAnswer, LaidOut, layout_of}
use Rattle.omf_layout.specs.declared.fault.LayoutFault.{LayoutFault}
use Rattle.omf_layout.specs.declared.fault.LayoutFault.TheVariants as layout
use Rattle.omf_layout.specs.declared.options.Options.{Options}
use Rattle.omf_cmd.specs.HowFar.{IsReadFrom}
use Rattle.omf_cmd.specs.Reports.{of_check}
use Rattle.omf_cmd.specs.Runs.{IsUnbroken}
use Rattle.omf_cmd.specs.declared.fault.RunFault.TheVariants as run
use Rattle.omf_drafting.specs.Place.Drafts.{IsDrafted}
use Rattle.omf_drafting.specs.Suiting.{module_options}
use Rattle.omf_drafting.specs.declared.options.AskedOptions.{AskedOptions}
use Rattle.omf_drafting.specs.Place.Faults.{of_layout}
use Rattle.omf_drafting.specs.Place.Runs.{any, Drafts, IsDraftCause}
use Rattle.omf_drafting.specs.declared.place.fault.PlaceFault.{PlaceFault}
use Rattle.omf_drafting.specs.declared.place.fault.PlaceFault.TheVariants as fault

-- there is no layout
pub not-laid : (o : Options) (m : List Rec) (f : LayoutFault) → IsAnswer {A = LaidOut} (layout_of o m) (Err f) → IsDrafted o m (Err (of_layout f))
not-laid o m layout.Memory h = tt
not-laid o m layout.NoRoom h = h

-- there is no module
pub not-checked : (o : AskedOptions) (input : List ℕ) (old new : Option (List ℕ)) (failed fails : ℕ) (e : CheckFault) → Decides any input (Err e) → IsCheckFault any old new failed fails e
    → Drafts o input old new (Err (fault.Run (of_check e)))
not-checked o input old new failed fails check.Memory d c = inl c
not-checked o input old new failed fails check.Read d c = c.1
not-checked o input old new failed fails (check.Refused why at) d c = (d, c)

-- there is one, with these records
pub is-drafted : (o : AskedOptions) (input : List ℕ) (rs : List Raw) (old new : Option (List ℕ)) (r : Result (List ℕ) PlaceFault) → IsReadFrom any input rs old new → IsDrafted (module_options (recs rs) o) (recs rs) r → Drafts o input old new r
is-drafted o input rs old new (Ok text) read d = record { records = rs; read = read; draft = d }
is-drafted o input rs old new (Err fault.NoRoom) read d = record { records = rs; read = read; none = d }
is-drafted o input rs old new (Err (fault.Run run.Memory)) read d = inr (rs, read)
is-drafted o input rs old new (Err (fault.Run run.Read)) read d = absurd d
is-drafted o input rs old new (Err (fault.Run run.Write)) read d = absurd d
is-drafted o input rs old new (Err (fault.Run run.TooLong)) read d = absurd d
is-drafted o input rs old new (Err (fault.Run (run.Line n))) read d = absurd d
is-drafted o input rs old new (Err (fault.Run (run.Reach f))) read d = absurd d
is-drafted o input rs old new (Err (fault.Run (run.Refused why at))) read d = absurd d

pub drafted-cause : (o : Options) (m : List Rec) (old new : Device) (r : Result (List ℕ) PlaceFault) → IsUnbroken old new → IsDrafted o m r → IsDraftCause old new r
drafted-cause o m old new (Ok text) h d = h
drafted-cause o m old new (Err fault.NoRoom) h d = h
drafted-cause o m old new (Err (fault.Run run.Memory)) h d = (h, tt)
drafted-cause o m old new (Err (fault.Run run.Read)) h d = absurd d
drafted-cause o m old new (Err (fault.Run run.Write)) h d = absurd d
drafted-cause o m old new (Err (fault.Run run.TooLong)) h d = absurd d
drafted-cause o m old new (Err (fault.Run (run.Line n))) h d = absurd d
drafted-cause o m old new (Err (fault.Run (run.Reach f))) h d = absurd d
drafted-cause o m old new (Err (fault.Run (run.Refused why at))) h d = absurd d

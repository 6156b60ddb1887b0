-- The faults of a record, computed.
use Rattle.std.specs.Prelude.{ℕ, ◌+◌, List, [], ◌∷◌, ◌++◌, map, slice_get, is_none}
use Rattle.omf_frame.specs.Fault.{Fault, broken, first_step}
use Rattle.omf_frame.specs.Framing.{Raw, frame_steps, front_record}
use Rattle.omf_records.specs.Inner.Reading.{typed, layout_faults}
use Rattle.omf_records.specs.Values.{Contents, Iterated, width}
use Rattle.omf_image.specs.Inner.Expanding.{block_faults, length_faults}
use Rattle.omf_image.specs.declared.limits.Limits.{Limits}
use Rattle.omf_check.specs.Refusal.{fault_from}
use Rattle.omf_check.specs.Rules.{rules}
use Rattle.omf_check.specs.WellFormed.{recs}
use Rattle.omf_check.specs.declared.profile.Profile.{Profile}

-- Faults of the blocks of an LIDATA, which follow its offset.
abbrev pub of_blocks : (ℕ → Limits → List ℕ → List Fault) → Limits → ℕ → Contents → List Fault
of_blocks faults limits kind (Iterated d) = map (fault_from (d.offset.within + width kind)) (faults (width kind) limits d.bytes)
of_blocks faults limits kind _ = []

-- The faults of a whole record after these records, in the order of the steps that check them: layout, and the first Short or TooDeep of
-- blocks; DataTooLong; meaning.
abbrev pub record_steps : Profile → Limits → List Raw → Raw → List (List Fault)
record_steps profile limits before r = (layout_faults r ++ of_blocks block_faults limits r.kind (typed r).contents)
    ∷ of_blocks length_faults limits r.kind (typed r).contents
    ∷ broken (rules profile limits (recs before) (typed r))
    ∷ []

-- The faults of the bytes present of one record after these records: those of the first step that has any; framing comes first.
abbrev pub faults_after : Profile → Limits → List Raw → List ℕ → List Fault
faults_after profile limits before bytes = first_step (frame_steps (is_none (slice_get before 0)) bytes ++ record_steps profile limits before (front_record bytes))

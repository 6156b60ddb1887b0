-- The first refusal of an input that does not begin with a module.
use Rattle.std.specs.Prelude.{◌≡◌, ◌⊎◌, ℕ, ◌+◌, ◌<◌, List, ◌∷◌, ◌++◌, length, flat_map, All, Contains, not, IsTrue, slice_get, is_none}
use Rattle.std.specs.List.{AllZip}
use Rattle.omf_frame.specs.Bytes.{AreBytes}
use Rattle.omf_frame.specs.Fault.{Fault, broken, first_step}
use Rattle.omf_frame.specs.Framing.{Raw, raw_bytes, IsRecord, is_end, is_end_of_input, frame_steps, front_record, present, stated_length}
use Rattle.omf_frame.specs.declared.fault.Place.{Place}
use Rattle.omf_frame.specs.declared.fault.Reason.{Reason}
use Rattle.omf_frame.specs.declared.fault.Reason.TheVariants as reason
use Rattle.omf_records.specs.Layout.{fault}
use Rattle.omf_records.specs.Records.{contents}
use Rattle.omf_records.specs.Values.{Rec, Contents, Iterated, width}
use Rattle.omf_image.specs.Blocks.{Blocks, blocks, blocks_size}
use Rattle.omf_image.specs.Laws.{IsLeastOf}
use Rattle.omf_image.specs.declared.limits.Limits.{Limits}
use Rattle.omf_check.specs.Rules.{rules}
use Rattle.omf_check.specs.WellFormed.{IsWellFormed, IsRecOf}
use Rattle.omf_check.specs.declared.profile.Profile.{Profile}

-- A fault whose place counts from a place in the record, with a place that counts from its start.
abbrev pub fault_from : ℕ → Fault → Fault
fault_from at f = record f { within = at + f.within }

-- The faults of the blocks of an LIDATA, which follow its offset: of their layout, Short or TooDeep; and DataTooLong, if they expand to more
-- bytes than the limit.
abbrev pub IsBlockFault : Limits → ℕ → Contents → Fault → Type 0
IsBlockFault limits kind (Iterated d) e = (f : Fault) × (blocks (width kind) limits.nesting).Faults 0 d.bytes f × (e ≡ fault_from (d.offset.within + width kind) f)
IsBlockFault limits kind _ e = ⊥

abbrev pub IsLengthFault : Limits → ℕ → Contents → Fault → Type 0
IsLengthFault limits kind (Iterated d) e = (trees : Blocks) × (blocks (width kind) limits.nesting).Spells 0 d.bytes trees × (limits.expanded < blocks_size trees)
    × (e ≡ fault_from (d.offset.within + width kind) (fault 0 reason.DataTooLong))
IsLengthFault limits kind _ e = ⊥

-- The faults of a record after these records, in four steps: of the framing of the bytes that are present; of the layout of its contents, or of
-- its blocks; of their length; of its rules.
abbrev pub IsFramingFault : List Raw → List ℕ → Fault → Type 0
IsFramingFault before bytes e = Contains (first_step (frame_steps (is_none (slice_get before 0)) bytes)) e

abbrev pub IsLayoutFault : Limits → Raw → Fault → Type 0
IsLayoutFault limits r e = AreBytes r.body × ((contents r.kind).Faults 3 r.body e ⊎ ((t : Rec) × IsRecOf t r × IsBlockFault limits t.kind t.contents e))

abbrev pub IsTooLong : Limits → Raw → Fault → Type 0
IsTooLong limits r e = (t : Rec) × IsRecOf t r × IsLengthFault limits t.kind t.contents e

abbrev pub IsRuleFault : Profile → Limits → List Raw → Raw → Fault → Type 0
IsRuleFault profile limits before r e = (m : List Rec) × (t : Rec) × AllZip IsRecOf m before × IsRecOf t r × Contains (broken (rules profile limits m t)) e

-- The least fault of the first step that has any: of this step, or of a later one if this has none.
abbrev pub IsFirstOf : (Fault → Type 0) → (Fault → Type 0) → Fault → Type 0
IsFirstOf Step Later f = IsLeastOf Step f ⊎ (((e : Fault) → Step e → ⊥) × Later f)

abbrev pub IsFirstFault : Profile → Limits → List Raw → List ℕ → Fault → Type 0
IsFirstFault profile limits before bytes f = IsFirstOf (IsFramingFault before bytes) (IsFirstOf (IsLayoutFault limits (front_record bytes))
    (IsFirstOf (IsTooLong limits (front_record bytes)) (IsLeastOf (IsRuleFault profile limits before (front_record bytes))))) f

-- The input is refused for this reason at this place: it begins with records without fault, none of them a MODEND, and this is the
-- first fault of the bytes that follow them.
pub record IsRefused (profile : Profile) (limits : Limits) (input : List ℕ) (why : Reason) (at : Place) : Type 0 where
  pub before : List Raw
  pub rest : List ℕ
  pub found : Fault
  pub spelled : input ≡ flat_map raw_bytes before ++ rest
  pub records : All IsRecord before
  pub running : All (λ r. IsTrue (not (is_end r.kind))) before
  pub sound : (earlier later : List Raw) (r : Raw) → before ≡ earlier ++ r ∷ later → (f : Fault) → IsFirstFault profile limits earlier (raw_bytes r) f → ⊥
  pub first : IsFirstFault profile limits before (present rest) found
  pub named : why ≡ found.reason
  pub there : at ≡ (record { number = length before; start = length (flat_map raw_bytes before); within = found.within })

-- The bytes of a record at fault end where it is refused for this reason: after its type byte, after a length of 0, or at its end.
-- NoEnd and Cut are decided only by the end of the input.
abbrev pub EndsWhereJudged : Reason → List ℕ → Type 0
EndsWhereJudged reason.NoEnd part = ⊥
EndsWhereJudged reason.Cut part = ⊥
EndsWhereJudged reason.UnknownType part = length part ≡ 1
EndsWhereJudged reason.UnsupportedType part = length part ≡ 1
EndsWhereJudged reason.EmptyRecord part = length part ≡ 3
EndsWhereJudged _ part = length part ≡ 3 + stated_length part

-- The bytes are a module and nothing more, or their only refusal is that they end too early for one.
abbrev pub AreSoundSoFar : Profile → Limits → List ℕ → Type 0
AreSoundSoFar profile limits bytes =
    ((records : List Raw) × IsWellFormed profile limits bytes records)
    ⊎ ((why : Reason) × (at : Place) × IsTrue (is_end_of_input why) × IsRefused profile limits bytes why at)

-- The lowering of a module: which records replace which.
use Rattle.std.specs.Prelude.{◌≡◌, ◌⊎◌, ℕ, ◌<◌, ◌≤◌, List, [], ◌∷◌, ◌++◌, length, map, flat_map, All, Bool, not, ◌==◌, ◌&&◌, nat_lt, fold, Option, Some, None, Result, Ok, Err, IsTrue, if◌then◌else◌, ⊤}
use Rattle.std.specs.List.{list_any}
use Rattle.std.specs.Option.{option_or}
use Rattle.omf_frame.specs.Bytes.{is_one_of, with_before}
use Rattle.omf_frame.specs.Fault.{Fault}
use Rattle.omf_frame.specs.Framing.{Raw, raw_bytes, is_taken, is_end, front_record}
use Rattle.omf_frame.specs.Types.{row}
use Rattle.omf_frame.specs.declared.kinds.RecordType.TheVariants.{Cextdef, Bakpat, Comdat, Nbkpat, Segdef, Vendext}
use Rattle.omf_frame.specs.declared.fault.Place.{Place}
use Rattle.omf_frame.specs.declared.fault.Reason.{Reason}
use Rattle.omf_frame.specs.declared.fault.Reason.TheVariants as reason
use Rattle.omf_check.specs.Rules.{item_limit}
use Rattle.omf_records.specs.Layout.{fault}
-- computed: readings_meet_layouts of omf_records.
use Rattle.omf_records.specs.Inner.Reading.{read_body}
use Rattle.omf_records.specs.Inner.Reads.{and_then, or_none}
use Rattle.omf_records.specs.Values.{Contents, is_wide}
use Rattle.omf_lowering.specs.Comdats.{defined_by, given_by, growth, made, named_patches_by, new_of, resolved}
use Rattle.omf_lowering.specs.Externals.{external_record, externals_by}
-- computed: readings_meet_layouts of omf_lowering.
use Rattle.omf_lowering.specs.Inner.Readers.{bakpat_whole, comdat_whole}
use Rattle.omf_lowering.specs.Layouts.{Backpatches}
use Rattle.omf_lowering.specs.Patches.{pieces_from, patches_by, patched, placed}
use Rattle.omf_lowering.specs.Segments.{names_thread_past, segment_fault, segments_named}
use Rattle.omf_lowering.specs.Symbols.{with_linnum}
use Rattle.omf_lowering.specs.Unrolled.{Before as Unrolled, after_record, after_records}
use Rattle.omf_lowering.specs.Values.{Instance, Resolved, Tables}
use Rattle.omf_lowering.specs.Wide.{framing_fault, is_known, is_right}
use Rattle.omf_lowering.specs.declared.fault.LoweringFault.{LoweringFault}
use Rattle.omf_lowering.specs.declared.fault.LoweringFault.TheVariants as lowering
use Rattle.omf_lowering.specs.declared.values.Piece.{Piece}
use Rattle.omf_lowering.specs.declared.values.Patch.{Patch}

abbrev pub is_cextdef : ℕ → Bool
is_cextdef kind = is_one_of (row Cextdef).bytes kind

abbrev pub is_bakpat : ℕ → Bool
is_bakpat kind = is_one_of (row Bakpat).bytes kind

abbrev pub is_nbkpat : ℕ → Bool
is_nbkpat kind = is_one_of (row Nbkpat).bytes kind

abbrev pub is_comdat : ℕ → Bool
is_comdat kind = is_one_of (row Comdat).bytes kind

abbrev pub is_vendext : ℕ → Bool
is_vendext kind = is_one_of (row Vendext).bytes kind

abbrev pub is_segdef : ℕ → Bool
is_segdef kind = is_one_of (row Segdef).bytes kind

-- What a module has up to a record: its tables, its COMDATs, and the records that replace those before.
pub record Before : Type 0 where
  pub tables : Tables
  pub instances : List Instance
  pub records : List Raw

-- A COMDAT record with what it refers to, or its first fault: of layout, or else of a reference.
abbrev pub comdat_of : Before → Raw → Result Resolved Fault
comdat_of b r = and_then ((comdat_whole (is_wide r.kind)).read 3 r.body) (resolved b.tables b.instances (length b.records) r.kind)

-- What replaces a record: an EXTDEF or LEXTDEF for each external of a CEXTDEF, nothing for a BAKPAT or an NBKPAT, a segment of its own with a public name and data for a
-- COMDAT, or more data for one that is continued, nothing for a VENDEXT, whose meaning is a vendor's (TIS OMF 1.1, "VENDEXT"; this profile's rule), a LINNUM for a LINSYM of a
-- COMDAT; every other record itself.
abbrev pub replacement : Before → Raw → List Raw
replacement b r =
    if is_cextdef r.kind then map external_record (or_none (externals_by b.tables r.body))
    else if is_bakpat r.kind then []
    else if is_nbkpat r.kind then []
    else if is_comdat r.kind then given_by (made r.kind) (comdat_of b r)
    else if is_vendext r.kind then []
    else with_linnum b.tables b.instances r ∷ []

-- The COMDATs that a record adds.
abbrev pub instances_in : Before → Raw → List Instance
instances_in b r = if is_comdat r.kind then given_by new_of (comdat_of b r) else []

-- What a module has up to the next record.
abbrev pub up_to_next : Before → Raw → Before
up_to_next b r = record {
  tables = defined_by b.tables r;
  instances = b.instances ++ instances_in b r;
  records = b.records ++ replacement b r;
}

-- What a module has before its first record: nothing.
abbrev pub no_tables : Tables
no_tables = record { names = []; locals = []; segments = []; groups = [] }

abbrev pub start : Before
start = record { tables = no_tables; instances = []; records = [] }

-- What a module has after these records.
abbrev pub so_far : List Raw → Before
so_far rs = fold up_to_next start rs

-- The records with each replaced, before any value is added.
abbrev pub replaced : List Raw → List Raw
replaced rs = (so_far rs).records

-- The data of these records.
abbrev pub pieces : List Raw → List Piece
pieces rs = pieces_from 0 (replaced rs)

-- The values that a record adds to the data before it: those of a BAKPAT or an NBKPAT.
abbrev pub patches_in : Before → List Piece → Raw → List Patch
patches_in b data_before r =
    if is_bakpat r.kind then or_none (patches_by data_before r.kind r.body)
    else if is_nbkpat r.kind then or_none (named_patches_by b.tables b.instances data_before r.kind r.body)
    else []

-- The values of all BAKPATs and NBKPATs, in their order.
abbrev pub patches : List Raw → List Patch
patches rs = with_before (λ before r. patches_in (so_far before) (pieces before) r) [] rs

-- What a record adds to the length of a SEGDEF before it: a COMDAT that is continued.
abbrev pub growths_in : Before → List Piece → Raw → List Patch
growths_in b data_before r = if is_comdat r.kind then given_by (growth data_before) (comdat_of b r) else []

-- What all COMDATs that are continued add to lengths, in their order.
abbrev pub growths : List Raw → List Patch
growths rs = with_before (λ before r. growths_in (so_far before) (pieces before) r) [] rs

-- The lowered records: each replaced, the values of the BAKPATs and NBKPATs added to the data of the LEDATAs, and the lengths of the COMDATs' segments. A fixup of such
-- data is applied to the sum.
abbrev pub lowered_records : List Raw → List Raw
lowered_records rs = patched (patched (replaced rs) (patches rs)) (growths rs)

-- The fault of a result, if it has one.
abbrev pub fault_of : {A : Type 0} → Result A Fault → Option Fault
fault_of (Ok x) = None
fault_of (Err e) = Some e

-- A SEGDEF after a COMDAT: the segment of the COMDAT would have its index.
abbrev pub is_late : List Instance → ℕ → Bool
is_late instances kind = is_segdef kind && not (length instances == 0)

-- The fault of a record that this profile reads: of its layout, or else of a segment that it names.
abbrev pub named_fault : Tables → List Instance → Result Contents Fault → Option Fault
named_fault t instances (Ok c) = segment_fault t instances (segments_named c)
named_fault t instances (Err e) = Some e

-- The fault of a BAKPAT: of its layout, or else of its segment, or else of a location.
abbrev pub own_fault : Tables → List Instance → List Piece → Backpatches → Option Fault
own_fault t instances data_before b = option_or (segment_fault t instances (b.segment ∷ [])) (fault_of (placed data_before b))

abbrev pub own_fault_in : Tables → List Instance → List Piece → Result Backpatches Fault → Option Fault
own_fault_in t instances data_before (Ok b) = own_fault t instances data_before b
own_fault_in t instances data_before (Err e) = Some e

-- The first COMDAT has a fault if a THREAD before it names a segment past those of the module: a fixup after it may use the THREAD.
abbrev pub thread_fault : Before → Option Fault
thread_fault b = if (length b.instances == 0) && list_any (names_thread_past (length b.tables.segments)) b.records then Some (fault 0 reason.UndefinedSegment) else None

-- The fault of a record, by what is before it and the data before it: of a CEXTDEF, of a BAKPAT, of an NBKPAT, of a COMDAT or of a THREAD before it, of a SEGDEF after a COMDAT, or of
-- a record that this profile reads.
abbrev pub fault_by : Before → List Piece → Raw → Option Fault
fault_by b data_before r =
    if is_cextdef r.kind then fault_of (externals_by b.tables r.body)
    else if is_bakpat r.kind then own_fault_in b.tables b.instances data_before ((bakpat_whole (is_wide r.kind)).read 3 r.body)
    else if is_nbkpat r.kind then fault_of (named_patches_by b.tables b.instances data_before r.kind r.body)
    else if is_comdat r.kind then option_or (fault_of (comdat_of b r)) (thread_fault b)
    else if is_late b.instances r.kind then Some (fault 0 reason.UnsupportedType)
    else if is_taken r.kind then named_fault b.tables b.instances (read_body r.kind r.body)
    else None

abbrev pub lowering_fault : List Raw → Raw → Option Fault
lowering_fault before r = fault_by (so_far before) (pieces before) r

-- The faults of records, each by the records before it.
abbrev pub faults_in : Option Fault → List Fault
faults_in None = []
faults_in (Some f) = f ∷ []

abbrev pub faults : List Raw → List Fault
faults rs = with_before (λ before r. faults_in (lowering_fault before r)) [] rs

-- A record of a known type with a right checksum byte, whose length its length field can have.
pub record IsWideRecord (r : Raw) : Type 0 where
  pub known : IsTrue (is_known r.kind)
  pub right : IsTrue (is_right r)
  pub short : length r.body < 65535

-- An input begins with these records, which are not too many, and none of which has a fault or is a MODEND; the rest follows.
pub record BeginsWith (input : List ℕ) (rs : List Raw) (rest : List ℕ) : Type 0 where
  pub spelled : input ≡ flat_map raw_bytes rs ++ rest
  pub count : length rs ≤ item_limit
  pub each : All IsWideRecord rs
  pub sound : faults rs ≡ []
  pub no_end : All (λ r. IsTrue (not (is_end r.kind))) rs

-- An input begins with records up to a MODEND, none of which has a fault, these are the bytes of the lowered ones with their LIDATAs that have fixups unrolled, and the rest follows.
pub record IsLowered (input out rest : List ℕ) : Type 0 where
  pub before : List Raw
  pub end : Raw
  pub begins : BeginsWith input before (raw_bytes end ++ rest)
  pub few : length before < item_limit
  pub last : IsWideRecord end
  pub ends : IsTrue (is_end end.kind)
  pub sound : lowering_fault before end ≡ None
  pub after : Unrolled
  pub unrolled : after_records (lowered_records (before ++ end ∷ [])) ≡ Ok after
  pub lowered : out ≡ flat_map raw_bytes after.records

-- The first fault of the record at the front of the rest: there are too many before it (this profile's rule), or it has one of framing, or else of its
-- contents.
abbrev pub fault_at : List Raw → List ℕ → Option Fault
fault_at before rest =
    if nat_lt (length before) item_limit then option_or (framing_fault rest) (lowering_fault before (front_record rest))
    else Some (fault 0 reason.TooMany)

-- An input has a first record with a fault, and this is the fault, with the number and the offset of the record.
pub record HasFault (input : List ℕ) (why : Reason) (place : Place) : Type 0 where
  pub before : List Raw
  pub rest : List ℕ
  pub begins : BeginsWith input before rest
  pub number : place.number ≡ length before
  pub start : place.start ≡ length (flat_map raw_bytes before)
  pub fault : fault_at before rest ≡ Some (record { within = place.within; reason = why })

-- The record of an input which gives the lowered record with a number: after it there are more lowered records than this number, and not before it. (The MODEND gives the last one.)
pub record IsOrigin (input : List ℕ) (number : ℕ) (place : Place) : Type 0 where
  pub before : List Raw
  pub origin : Raw
  pub rest : List ℕ
  pub begins : BeginsWith input before (raw_bytes origin ++ rest)
  pub wide : IsWideRecord origin
  pub from : length (replaced before) ≤ number
  pub to : (number < length (replaced (before ++ origin ∷ []))) ⊎ IsTrue (is_end origin.kind)
  pub numbered : place.number ≡ length before
  pub started : place.start ≡ length (flat_map raw_bytes before)

-- Some records have a first one with a fault of unrolling, and this is its number and its fault.
pub record HasFixupFault (rs : List Raw) (number : ℕ) (f : Fault) : Type 0 where
  pub done : List Raw
  pub next : Raw
  pub left : List Raw
  pub split : rs ≡ done ++ next ∷ left
  pub counted : number ≡ length done
  pub after : Unrolled
  pub unrolled : after_records done ≡ Ok after
  pub fault : after_record after next ≡ Err f

-- An input begins with records up to a MODEND, none of which has a fault of its own; of the lowered ones a FIXUPP has one of unrolling, and this is the fault, at the record of the input.
pub record IsNotUnrolled (input : List ℕ) (why : Reason) (place : Place) : Type 0 where
  pub before : List Raw
  pub end : Raw
  pub rest : List ℕ
  pub begins : BeginsWith input before (raw_bytes end ++ rest)
  pub few : length before < item_limit
  pub last : IsWideRecord end
  pub ends : IsTrue (is_end end.kind)
  pub sound : lowering_fault before end ≡ None
  pub number : ℕ
  pub fault : HasFixupFault (lowered_records (before ++ end ∷ [])) number (record { within = place.within; reason = why })
  pub origin : IsOrigin input number place

-- An input is refused for its first record with a fault of its own, or else for the first fixup that cannot be unrolled.
abbrev pub IsRefused : List ℕ → Reason → Place → Type 0
IsRefused input why place = HasFault input why place ⊎ IsNotUnrolled input why place

-- The cause of a fault. Memory may run out at any time.
abbrev pub IsLoweringFault : List ℕ → LoweringFault → Type 0
IsLoweringFault input lowering.Memory = ⊤
IsLoweringFault input (lowering.Refused why place) = IsRefused input why place

-- Laws about the definitions, each the contract of a function of the same name.
use Rattle.std.specs.Prelude.{◌≡◌, ◌↔◌, ℕ, ◌≤◌, List, None, option_map, length, map, sum_by, All, Bool, true}
use Rattle.omf_frame.specs.Framing.{Raw, raw_bytes}
use Rattle.omf_image.specs.declared.limits.Limits.{Limits}
use Rattle.omf_records.specs.Values.{Rec, Subrecord}
use Rattle.omf_check.specs.Threads.{PlainReference, plain}
-- computed: readings_meet_layouts and contents_are_typed_once of omf_records.
use Rattle.omf_records.specs.Inner.Reading.{typed}
use Rattle.omf_records.specs.Records.{IsTyped}
use Rattle.omf_check.specs.Tables.{item_count}
use Rattle.omf_check.specs.WellFormed.{IsWellFormed, recs}
use Rattle.omf_check.specs.Module.{records_in}
use Rattle.omf_check.specs.declared.profile.Profile.{Profile}
use Rattle.omf_reloc.specs.declared.fault.ReachFault.{ReachFault}
use Rattle.omf_reloc.specs.declared.fault.ReachFault.TheVariants as fault
-- computed: faults_are_walked of omf_reloc; fixups_stand_alone of omf_canon.
use Rattle.omf_reloc.specs.Inner.Pieces.{single_pieces}
use Rattle.omf_reloc.specs.Plain.{Piece, Fixed, PlainFixup, pieces}
use Rattle.omf_placement.specs.Placement.{Places}
use Rattle.omf_reloc.specs.Reach.{causes, reach_fault}
use Rattle.omf_reloc.specs.Image.{image, start}
use Rattle.omf_canon.specs.Canonical.{piece_raws, canonical_raws, canonical}
use Rattle.omf_canon.specs.Cut.{IsGreedyCut, cut}
-- computed: walks_are_canonical of omf_canon.
use Rattle.omf_canon.specs.Inner.Streaming.{streamed}
use Rattle.omf_canon.specs.Unthreaded.{unthreaded}
use Rattle.omf_canon.specs.Joined.{IsJoined, parts, cut_pieces, piece_items}
use Rattle.omf_canon.specs.Skeleton.{normal, skeleton_of, skeleton}

-- A fault of reach without the place of its reference.
abbrev pub placeless : ReachFault → ReachFault
placeless (fault.TooFar number within c) = fault.TooFar 0 0 c
placeless f = f

-- Two modules mean the same at a placement: the same image, the same start and the same result of reach; and each reference in turn
-- reaches, or does not reach for the same cause.
pub record MeanTheSame (limits : Limits) (pl : Places) (m n : List Rec) : Type 0 where
  pub image : (segment x : ℕ) → image limits pl m segment x ≡ image limits pl n segment x
  pub start : start pl m ≡ start pl n
  pub reach : option_map placeless (reach_fault pl m) ≡ option_map placeless (reach_fault pl n)
  pub causes : causes pl (pieces m) ≡ causes pl (pieces n)

-- Modules of equal skeletons mean the same at every placement.
abbrev pub EqualSkeletons : Type 0
EqualSkeletons = (limits : Limits) (pl : Places) (m n : List Rec) → skeleton m ≡ skeleton n → MeanTheSame limits pl m n

-- There is one greedy cut of fixups, and it is the computed one.
abbrev pub CutsAreGreedy : Type 0
CutsAreGreedy = (kind : ℕ) (fixups : List PlainFixup) (groups : List (List PlainFixup)) → IsGreedyCut kind fixups groups ↔ (groups ≡ cut kind fixups)

-- Each canonical FIXUPP has at most 1,024 bytes in all.
abbrev pub FixuppsFit : Type 0
FixuppsFit = (kind : ℕ) (fixups : List PlainFixup) → All (λ r. length (raw_bytes r) ≤ 1024) (piece_raws (Fixed kind fixups))

-- The FIXUPPs of a skeleton are joined.
abbrev pub SkeletonsAreJoined : Type 0
SkeletonsAreJoined = (ps : List Piece) → IsJoined (skeleton_of ps)

-- Pieces are the skeleton of other pieces exactly if they are joined, and have the same fixups in FIXUPPs of the same types and the same
-- other records, in the same order.
abbrev pub SkeletonsAreUnique : Type 0
SkeletonsAreUnique = (ps qs : List Piece) → (IsJoined qs × (parts qs ≡ parts ps)) ↔ (qs ≡ skeleton_of ps)

-- The pieces of a module one fixup at a time, as a walk gives them, are the parts of its pieces.
abbrev pub FixupsStandAlone : Type 0
FixupsStandAlone = (m : List Rec) → single_pieces m ≡ parts (pieces m)

-- Joined pieces are the skeleton of their cut.
abbrev pub CutsAreJoined : Type 0
CutsAreJoined = (ps : List Piece) → IsJoined ps → skeleton_of (cut_pieces ps) ≡ ps

-- The cut of a module's skeleton has no more items than the module.
abbrev pub CutsAreNotMore : Type 0
CutsAreNotMore = (m : List Rec) → sum_by piece_items (cut_pieces (skeleton m)) ≤ item_count m

-- The canonical records of a well-formed module encode the cut of its skeleton, and so have its skeleton.
pub record CanonicalHolds (records : List Raw) : Type 0 where
  pub typed : All (λ r. IsTyped (typed r) r.body) (canonical_raws (skeleton (recs records)))
  pub pieces : map normal (pieces (recs (canonical_raws (skeleton (recs records))))) ≡ cut_pieces (skeleton (recs records))
  pub skeleton : skeleton (recs (canonical_raws (skeleton (recs records)))) ≡ skeleton (recs records)

abbrev pub CanonicalsHold : Type 0
CanonicalsHold = (profile : Profile) (limits : Limits) (bytes : List ℕ) (records : List Raw) → IsWellFormed profile limits bytes records → CanonicalHolds records

-- The canonical bytes of a well-formed module are well formed under the same profile, their records are its canonical records, and they
-- have no more items.
abbrev pub CanonicalsAreWellFormed : Type 0
CanonicalsAreWellFormed = (profile : Profile) (limits : Limits) (bytes : List ℕ) (records : List Raw) → IsWellFormed profile limits bytes records
    → IsWellFormed profile limits (canonical (recs records)) (canonical_raws (skeleton (recs records)))
    × (item_count (recs (canonical_raws (skeleton (recs records)))) ≤ item_count (recs records))

-- Canonical bytes are their own canonical bytes.
abbrev pub CanonicalsAreFixed : Type 0
CanonicalsAreFixed = (profile : Profile) (limits : Limits) (bytes : List ℕ) (records : List Raw) → IsWellFormed profile limits bytes records
    → canonical (recs (canonical_raws (skeleton (recs records)))) ≡ canonical (recs records)

-- Two well-formed modules, each under some profile, have the same canonical bytes exactly if their skeletons are equal.
abbrev pub CanonicalsDecide : Type 0
CanonicalsDecide = (profile other : Profile) (limits more : Limits) (a b : List ℕ) (rs ss : List Raw) → IsWellFormed profile limits a rs → IsWellFormed other more b ss
    → (canonical (recs rs) ≡ canonical (recs ss)) ↔ (skeleton (recs rs) ≡ skeleton (recs ss))

-- A resolved reference, written as one that names no thread, resolves to itself after any subrecords; so does its short form if the
-- displacement is 0.
abbrev pub UnthreadedArePlain : Type 0
UnthreadedArePlain = (earlier : List Subrecord) (short : Bool) (r : PlainReference) → (short ≡ true → r.displacement ≡ 0) → plain earlier (unthreaded short r) ≡ r

-- At every placement the canonical records of a module have its image, its start and its result of reach.
abbrev pub CanonicalsMeanTheSame : Type 0
CanonicalsMeanTheSame = (profile : Profile) (limits : Limits) (bytes : List ℕ) (records : List Raw) → IsWellFormed profile limits bytes records
    → (pl : Places) → MeanTheSame limits pl (recs (canonical_raws (skeleton (recs records)))) (recs records)

-- The records of canonical bytes are the canonical records.
abbrev pub CanonicalsAreRead : Type 0
CanonicalsAreRead = (profile : Profile) (limits : Limits) (bytes : List ℕ) (records : List Raw) → IsWellFormed profile limits bytes records
    → records_in (canonical (recs records)) ≡ canonical_raws (skeleton (recs records))

-- One walk over the pieces of a module, with at most one group of fixups open, gives the canonical records of its skeleton.
abbrev pub WalksAreCanonical : Type 0
WalksAreCanonical = (ps : List Piece) → streamed None ps ≡ canonical_raws (skeleton_of ps)

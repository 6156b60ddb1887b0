-- Laws about modules of equal keys, each the contract of a function of the same name.
use Rattle.std.specs.Prelude.{◌≡◌, List, map}
use Rattle.omf_records.specs.Values.{Rec}
use Rattle.omf_image.specs.Limits.{profile_limits}
use Rattle.omf_check.specs.Module.{Module, recs_of}
use Rattle.omf_check.specs.Tables.{names, segments, attributes, groups, externals, locals}
use Rattle.omf_placement.specs.Derive.{placed_modules}
-- computed: derived_is_taken of omf_placement.
use Rattle.omf_placement.specs.Inner.Derived.{derived}
use Rattle.omf_placement.specs.declared.several.given.Given.{Given}
use Rattle.omf_placement.specs.Placement.{Places}
use Rattle.omf_placement.specs.Weak.{weak_pairs, with_weak}
use Rattle.omf_canon.specs.Laws.{MeanTheSame}
use Rattle.omf_keys.specs.Keys.{HaveOneKey, HaveEqualKeys, bare_pieces, main_pieces, bare_group}

-- Two modules have the same pieces, but for their places: the same records, and the same fixups in the same order; and both are main modules, or none is.
pub record HaveSamePieces (m n : List Rec) : Type 0 where
  pub bare : bare_pieces m ≡ bare_pieces n
  pub mains : main_pieces m ≡ main_pieces n

-- Modules of one key have the same pieces.
abbrev pub PiecesByKeys : Type 0
PiecesByKeys = (m n : Module) → HaveOneKey m n → HaveSamePieces (recs_of m.bytes) (recs_of n.bytes)

-- The tables of two modules are the same, but for the places in the records of groups.
pub record HaveSameTables (m n : List Rec) : Type 0 where
  pub names : names m ≡ names n
  pub segments : segments m ≡ segments n
  pub attributes : attributes m ≡ attributes n
  pub groups : map bare_group (groups m) ≡ map bare_group (groups n)
  pub externals : externals m ≡ externals n
  pub locals : locals m ≡ locals n
  pub weak : weak_pairs m ≡ weak_pairs n

abbrev pub TablesByKeys : Type 0
TablesByKeys = (m n : Module) → HaveOneKey m n → HaveSameTables (recs_of m.bytes) (recs_of n.bytes)

-- At every placement modules of one key have the same image and start, and reach or do not reach for the same causes.
abbrev pub MeaningsByKeys : Type 0
MeaningsByKeys = (m n : Module) → HaveOneKey m n → (pl : Places) → MeanTheSame profile_limits pl (recs_of m.bytes) (recs_of n.bytes)

-- At the same places modules of equal keys have the same externals, or the same fault; and so have their weak externals.
abbrev pub ExternalsByKeys : Type 0
ExternalsByKeys = (ms ns : List Module) (places : List Places) (given : List Given) → HaveEqualKeys ms ns
    → (derived (placed_modules ms places) given ≡ derived (placed_modules ns places) given) × (with_weak (placed_modules ms places) given ≡ with_weak (placed_modules ns places) given)

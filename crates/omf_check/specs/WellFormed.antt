-- Well-formed modules, and inputs that begin with one.
use Rattle.std.specs.Prelude.{◌≡◌, ℕ, List, ◌∷◌, ◌++◌, map, All, ⊤, IsTrue}
use Rattle.std.specs.List.{AllZip}
use Rattle.omf_frame.specs.Framing.{Raw, IsFramed}
-- computed: readings_meet_layouts and contents_are_typed_once of omf_records.
use Rattle.omf_records.specs.Inner.Reading.{typed}
use Rattle.omf_records.specs.Records.{IsTyped}
use Rattle.omf_records.specs.Values.{Rec, Contents, Iterated, width}
use Rattle.omf_image.specs.Blocks.{Blocks, AreBlocks}
use Rattle.omf_image.specs.declared.limits.Limits.{Limits}
use Rattle.omf_check.specs.Rules.{rules}
use Rattle.omf_check.specs.declared.profile.Profile.{Profile}

-- The records, typed by reading them.
abbrev pub recs : List Raw → List Rec
recs records = map typed records

-- The blocks of an LIDATA are within the limits (this profile's rule).
abbrev pub HasTrees : Limits → ℕ → Contents → Type 0
HasTrees limits kind (Iterated d) = (trees : Blocks) × AreBlocks (width kind) limits d.bytes trees
HasTrees limits kind _ = ⊤

-- A record's typed record: its type, and the value that its contents encode.
abbrev pub IsRecOf : Rec → Raw → Type 0
IsRecOf t r = (t.kind ≡ r.kind) × IsTyped t r.body

-- The bytes are a well-formed module of these records: they are framed, the contents of each encode a value, blocks are within the limits, and
-- each record keeps its rules, given the records before it. `typed_records` are the records with these values.
pub record IsWellFormed (profile : Profile) (limits : Limits) (bytes : List ℕ) (records : List Raw) : Type 0 where
  pub typed_records : List Rec
  pub framed : IsFramed bytes records
  pub spelled : AllZip IsRecOf typed_records records
  pub blocks : All (λ r. HasTrees limits r.kind r.contents) typed_records
  pub kept : (before after : List Rec) (r : Rec) → typed_records ≡ before ++ r ∷ after → All (λ rule. IsTrue rule.holds) (rules profile limits before r)

-- The input begins with a well-formed module of these records; any bytes may follow.
pub record IsAccepted (profile : Profile) (limits : Limits) (input : List ℕ) (records : List Raw) : Type 0 where
  pub bytes : List ℕ
  pub rest : List ℕ
  pub spelled : input ≡ bytes ++ rest
  pub well_formed : IsWellFormed profile limits bytes records

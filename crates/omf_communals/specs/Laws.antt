-- Laws of the definitions, each the contract of a function of the same name.
use Rattle.std.specs.Prelude.{◌≡◌, List, ◌∷◌, ◌++◌, ℕ, false, All}
use Rattle.std.specs.List.{list_any}
use Rattle.omf_frame.specs.Bytes.{AreBytes}
use Rattle.omf_frame.specs.Framing.{Raw}
-- computed: readings_meet_layouts and contents_are_typed_once of omf_records.
use Rattle.omf_records.specs.Inner.Reading.{typed}
use Rattle.omf_records.specs.Layout.{Meets}
use Rattle.omf_records.specs.Values.{At, Externs, ExternalItem}
use Rattle.omf_check.specs.Listed.{IsReadable}
use Rattle.omf_check.specs.Tables.{externals, locals}
use Rattle.omf_check.specs.WellFormed.{recs}
use Rattle.omf_communals.specs.Communals.{is_communal, variables, with_communals}
-- computed: readings_meet_layout of omf_communals.
use Rattle.omf_communals.specs.Inner.Readers.{typdef_whole}
use Rattle.omf_communals.specs.Typdef.{typdef}

-- Reading the contents of a TYPDEF gives the one variable that they encode, or else the least of their faults.
abbrev pub ReadingsMeetLayout : Type 0
ReadingsMeetLayout = (body : List ℕ) → AreBytes body → Meets typdef 3 body (typdef_whole.read 3 body)

-- No external of a record is a communal by the TYPDEFs before it.
abbrev pub HaveNoCommunal : List Raw → Type 0
HaveNoCommunal rs = (before after : List Raw) (r : Raw) (items : List (At ExternalItem)) → rs ≡ before ++ r ∷ after → (typed r).contents ≡ Externs items → list_any (is_communal (variables before)) items ≡ false

-- Records without such an external stay as they are.
abbrev pub OthersStay : Type 0
OthersStay = (rs : List Raw) → HaveNoCommunal rs → with_communals rs ≡ rs

-- Records that are read, of bytes, define the same external names in the same order, and the same of them are local.
abbrev pub ExternalsStay : Type 0
ExternalsStay = (rs : List Raw) → All IsReadable rs → All (λ r. AreBytes r.body) rs
    → (externals (recs (with_communals rs)) ≡ externals (recs rs)) × (locals (recs (with_communals rs)) ≡ locals (recs rs))

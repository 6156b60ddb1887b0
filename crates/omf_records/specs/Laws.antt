-- Laws of typed records, each the contract of a function.
use Rattle.std.specs.Prelude.{◌≡◌, ℕ, ◌≤◌, List, [], length, ◌↔◌, IsTrue, Contains}
use Rattle.omf_frame.specs.Bytes.{AreBytes}
use Rattle.omf_frame.specs.Fault.{Fault, reason_number, is_before}
use Rattle.omf_frame.specs.Framing.{Raw}
use Rattle.omf_records.specs.Values.{Rec, Contents, contents_alone, alone}
use Rattle.omf_records.specs.Shortest.{contents_bytes}
use Rattle.omf_records.specs.Layout.{Meets, Behind}
use Rattle.omf_records.specs.Records.{contents, IsTyped}
use Rattle.omf_records.specs.Valued.{AreReferenceValues, HaveReferenceValues}
-- computed: readings_meet_layouts and contents_are_typed_once of omf_records.
use Rattle.omf_records.specs.Inner.Reading.{read_body, layout_faults, typed}

-- Two typed records of one type with the same contents are equal.
abbrev pub AreUnique : Type 0
AreUnique = (r s : Rec) (body : List ℕ) → r.kind ≡ s.kind → IsTyped r body → IsTyped s body → r ≡ s

-- Reading contents gives the one value they encode, or else the least of their faults.
abbrev pub ReadingsMeet : Type 0
ReadingsMeet = (kind : ℕ) (body : List ℕ) → AreBytes body → Meets (contents kind) 3 body (read_body kind body)

-- A record has no layout fault exactly if its contents encode a typed record.
abbrev pub AreDecided : Type 0
AreDecided = (r : Raw) → AreBytes r.body → IsTyped (typed r) r.body ↔ (layout_faults r ≡ [])

-- The typed record that the contents encode is the one read, and there is no fault then.
abbrev pub AreTyped : Type 0
AreTyped = (r : Raw) (t : Rec) → t.kind ≡ r.kind → IsTyped t r.body → (t ≡ typed r) × (layout_faults r ≡ [])

-- A reported layout fault is a fault of the layout, and no fault of the layout comes before it.
abbrev pub FaultsAreLeast : Type 0
FaultsAreLeast = (r : Raw) (f : Fault) → AreBytes r.body → Contains (layout_faults r) f
    → (contents r.kind).Faults 3 r.body f × ((g : Fault) → (contents r.kind).Faults 3 r.body g → IsTrue (is_before f g))

-- No layout fault is at an offset before the contents.
abbrev pub FaultsStandBehind : Type 0
FaultsStandBehind = (kind : ℕ) → Behind (contents kind)

-- The reasons of layout faults are 8 to 18.
abbrev pub LayoutReasons : Type 0
LayoutReasons = (kind at : ℕ) (bytes : List ℕ) (f : Fault) → (contents kind).Faults at bytes f → (8 ≤ reason_number f.reason) × (reason_number f.reason ≤ 18)

-- The shortest contents of a typed record encode that record, up to offsets. They are no longer than its contents, and consist of
-- bytes if those do.
abbrev pub ShortestAreTyped : Type 0
ShortestAreTyped = (r : Rec) (body : List ℕ) → IsTyped r body
    → ((s : Rec) × (s.kind ≡ r.kind) × IsTyped s (contents_bytes r.kind r.contents) × (alone s ≡ alone r))
    × (length (contents_bytes r.kind r.contents) ≤ length body)
    × (AreBytes body → AreBytes (contents_bytes r.kind r.contents))

-- Typed records of one type have the same shortest contents exactly if they are equal up to offsets.
abbrev pub ShortestDecide : Type 0
ShortestDecide = (r s : Rec) (body other : List ℕ) → r.kind ≡ s.kind → IsTyped r body → IsTyped s other
    → (contents_bytes r.kind r.contents ≡ contents_bytes s.kind s.contents) ↔ (alone r ≡ alone s)

-- The contents of a FIXUPP or a MODEND whose fields are in range are encoded by their shortest contents, up to offsets.
abbrev pub ValuesAreTyped : Type 0
ValuesAreTyped = (r : Rec) → AreReferenceValues r.kind r.contents
    → ((s : Rec) × (s.kind ≡ r.kind) × IsTyped s (contents_bytes r.kind r.contents) × (alone s ≡ alone r))
    × AreBytes (contents_bytes r.kind r.contents)

-- The fields of encoded contents are in range.
abbrev pub TypedHaveValues : Type 0
TypedHaveValues = (r : Rec) (body : List ℕ) → IsTyped r body → HaveReferenceValues r.kind r.contents

-- The shortest contents do not depend on offsets.
abbrev pub PlacesDoNotCount : Type 0
PlacesDoNotCount = (kind : ℕ) (c : Contents) → contents_bytes kind (contents_alone c) ≡ contents_bytes kind c

-- Laws of the choice, each the contract of a function of the same name.
use Rattle.std.specs.Prelude.{◌≡◌, ◌≤◌, ℕ, ◌+◌, List, [], ◌∷◌, ◌++◌, All, Contains, Some, None, bytes_eq, filter, flat_map, length, map, not, true, if◌then◌else◌}
use Rattle.std.specs.List.{AllZip}
use Rattle.omf_frame.specs.Types.{is_local}
use Rattle.omf_image.specs.Limits.{profile_limits}
use Rattle.omf_records.specs.Values.{Contents, Publics, Rec, Segment, SegmentItem, alone}
use Rattle.omf_check.specs.Module.{Module, records_in, recs_of, typed_modules}
use Rattle.omf_check.specs.Tables.{segment_length, segments}
use Rattle.omf_check.specs.WellFormed.{IsWellFormed}
use Rattle.omf_lowering.specs.Marks.{selection_by}
use Rattle.omf_trimming.specs.Choice.{AreChosen, Marked, agree, data_of, instances, name_by, past_threads, with_left_out}
use Rattle.omf_trimming.specs.Without.{recs_without}
use Rattle.omf_trimming.specs.declared.without.LeftPublics.TheVariants.{Nameless}

-- No record of a module is a mark.
abbrev pub HasNoMark : Module → Type 0
HasNoMark m = All (λ r. selection_by r.contents ≡ None) (recs_of m.bytes)

-- Modules without a mark stay as they are.
abbrev pub UnmarkedStay : Type 0
UnmarkedStay = (ms out : List Module) → All HasNoMark ms → AreChosen ms out → out ≡ ms

-- The first module stays as it is.
abbrev pub FirstStays : Type 0
FirstStays = (m o : Module) (ms out : List Module) → AreChosen (m ∷ ms) (o ∷ out) → o ≡ m

-- An instance of a module: three records, a SEGDEF, a PUBDEF of one name whose base is that segment, and a mark; nothing is between them but FIXUPPs without a FIXUP.
pub record IsInstance (m : List Rec) (i : Marked) : Type 0 where
  pub before : List Rec
  pub segdef : Rec
  pub pubdef : Rec
  pub mark : Rec
  pub after : List Rec
  pub split : past_threads m ≡ before ++ segdef ∷ pubdef ∷ mark ∷ after
  pub item : SegmentItem
  pub segment_is : segdef.contents ≡ Segment item
  pub index_is : i.segment ≡ length (segments before) + 1
  pub size_is : i.size ≡ segment_length segdef.kind item
  pub named : name_by i.segment pubdef.kind pubdef.contents ≡ Some i.name
  pub selected : selection_by mark.contents ≡ Some i.selection
  pub pieces_are : i.data_pieces ≡ data_of i.segment m

-- The instances of a module are exactly these.
abbrev pub InstancesAreTriples : Type 0
InstancesAreTriples = (m : List Rec) (i : Marked) → (Contains (instances m) i → IsInstance m i) × (IsInstance m i → Contains (instances m) i)

-- A module is well-formed for its profile.
abbrev pub IsWellFormedModule : Module → Type 0
IsWellFormedModule m = IsWellFormed m.profile profile_limits m.bytes (records_in m.bytes)

-- Each module has its records without the instances that are left out, but for their places. The laws rests_have_the_rest and publics_are_left_out show what that is.
abbrev pub ChosenAreTyped : Type 0
ChosenAreTyped = (ms out : List Module) → All IsWellFormedModule ms → AreChosen ms out → AllZip (λ c o. map alone (recs_of o.bytes) ≡ map alone (recs_without Nameless c.1 (recs_of c.0.bytes))) (with_left_out ms) out

-- The segments in which the PUBDEFs of a module define a name.
abbrev pub definitions_by : List ℕ → ℕ → Contents → List ℕ
definitions_by name kind (Publics p) = if is_local kind then [] else map (λ q. p.segment.item) (filter (λ q. bytes_eq q.item.name name) p.items)
definitions_by name kind _ = []

abbrev pub definitions : List ℕ → List Rec → List ℕ
definitions name m = flat_map (λ r. definitions_by name r.kind r.contents) m

-- The instances with a name.
abbrev pub of_name : List ℕ → List Marked → List Marked
of_name name is = filter (λ i. bytes_eq i.name name) is

-- A module defines a name at most once, and then by an instance.
pub record IsByInstance (name : List ℕ) (m : List Rec) : Type 0 where
  pub only : definitions name m ≡ map (λ i. i.segment) (of_name name (instances m))
  pub once : length (definitions name m) ≤ 1

-- Of instances of one name the first, and those that do not agree with it.
abbrev pub first_and_others : List Marked → List Marked
first_and_others [] = []
first_and_others (first ∷ later) = first ∷ filter (λ i. not (agree first i)) later

-- Of the instances of a name, over all modules in their order, the first is kept, with those that do not agree with it. They keep their segments and data, and nothing
-- else defines the name.
abbrev pub FirstsAreKept : Type 0
FirstsAreKept = (name : List ℕ) (ms out : List Module) → All IsWellFormedModule ms → All (IsByInstance name) (typed_modules ms) → AreChosen ms out
    → All (IsByInstance name) (typed_modules out) × (of_name name (flat_map instances (typed_modules out)) ≡ first_and_others (of_name name (flat_map instances (typed_modules ms))))

-- So if all agree with the first, it alone is kept, and its PUBDEF alone defines the name.
abbrev pub OneIsKept : Type 0
OneIsKept = (name : List ℕ) (ms out : List Module) (first : Marked) (later : List Marked) → All IsWellFormedModule ms → All (IsByInstance name) (typed_modules ms) → AreChosen ms out
    → of_name name (flat_map instances (typed_modules ms)) ≡ first ∷ later → All (λ i. agree first i ≡ true) later
    → (of_name name (flat_map instances (typed_modules out)) ≡ first ∷ []) × (flat_map (definitions name) (typed_modules out) ≡ first.segment ∷ [])

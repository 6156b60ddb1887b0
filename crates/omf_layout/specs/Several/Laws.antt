-- Laws of the layout of several modules, each the contract of a function of the same name.
use Rattle.std.specs.Prelude.{◌≡◌, ◌≢◌, ◌⊎◌, ℕ, ◌+◌, ◌<◌, ◌≤◌, List, Some, None, slice_get, map, flat_map, length, Bool}
use Rattle.std.specs.List.{filter}
use Rattle.omf_records.specs.Values.{Rec}
use Rattle.omf_placement.specs.Placement.{Places, absolute_place}
use Rattle.omf_layout.specs.Layout.{Laid}
use Rattle.omf_layout.specs.Laws.{IsMultiple}
use Rattle.omf_layout.specs.Room.{limit}
use Rattle.omf_layout.specs.Wants.{bytes_aligned}
use Rattle.omf_layout.specs.declared.options.Frames.{Frames}
use Rattle.omf_layout.specs.declared.options.Options.{Options}
use Rattle.omf_layout.specs.Several.Laying.{Lying, arranged}
use Rattle.omf_layout.specs.Several.Order.{order, place_of, in_order, runs}
use Rattle.omf_layout.specs.Several.Placing.{place_in, arranged_places}
use Rattle.omf_layout.specs.Several.Portions.{portion, portions}
use Rattle.omf_check.specs.Tables.{attributes, segments, entry}
use Rattle.omf_check.specs.declared.segment.SegInfo.{SegInfo}
use Rattle.omf_layout.specs.declared.several.portion.Portion.{Portion}
use Rattle.omf_layout.specs.declared.several.portion.Combination.TheVariants.{Common}

-- A segment that is not absolute.
abbrev pub IsRelocatable : Lying → Type 0
IsRelocatable x = x.0.segment.absolute ≡ None

-- A segment is at a multiple of its alignment, at or above `low`, and ends no higher than `high` and the limit.
pub record LiesWithin (frames : Frames) (low high : ℕ) (x : Lying) : Type 0 where
  pub multiple : IsMultiple (bytes_aligned x.0.alignment) x.1.address
  pub from : low ≤ x.1.address
  pub end : x.1.address + x.0.segment.length ≤ high
  pub below : x.1.address < limit frames
  pub within : x.1.address + x.0.segment.length ≤ limit frames

-- Two segments are common and have one place.
pub record AreCommon (x y : Lying) : Type 0 where
  pub first : x.0.combination ≡ Common
  pub second : y.0.combination ≡ Common
  pub place : x.1 ≡ y.1

-- The first of two segments ends before the second begins, unless they are common and have one place.
abbrev pub LieApart : Lying → Lying → Type 0
LieApart x y = AreCommon x y ⊎ (x.1.address + x.0.segment.length ≤ y.1.address)

-- Each segment that is not absolute is within what is laid, each absolute one is where its SEGDEF puts it, and no byte is in two segments that are neither
-- absolute nor common. They are laid in the order.
pub record SegmentsLieApart (o : Options) (ms : List (List Rec)) (l : Laid (List Lying)) : Type 0 where
  pub well : (i : ℕ) (x : Lying) → slice_get l.what i ≡ Some x → IsRelocatable x → LiesWithin o.frames o.base l.free x
  pub absolute : (i : ℕ) (x : Lying) (number offset : ℕ) → slice_get l.what i ≡ Some x → x.0.segment.absolute ≡ Some (number, offset) → x.1 ≡ absolute_place number offset
  pub apart : (i j : ℕ) (x y : Lying) → i < j → slice_get l.what i ≡ Some x → slice_get l.what j ≡ Some y → IsRelocatable x → IsRelocatable y → LieApart x y
  pub ordered : map (λ x. place_of x.0) l.what ≡ order ms

abbrev pub ArrangedLieApart : Type 0
ArrangedLieApart = (o : Options) (ms : List (List Rec)) (l : Laid (List Lying)) → arranged o ms ≡ Some l → SegmentsLieApart o ms l

-- The number of elements that pass a test.
abbrev pub count : {A : Type 0} → (A → Bool) → List A → ℕ
count t xs = length (filter t xs)

-- The order has each segment of each module as often as the modules have it: once.
abbrev pub OrderedOnce : Type 0
OrderedOnce = (ms : List (List Rec)) (t : Portion → Bool) → count t (flat_map in_order (runs ms)) ≡ count t (map (λ x. x.1.1) (portions ms))

-- The place of segment i of module j is where that segment is laid.
pub record IsLaidAt (ls : List Lying) (j i : ℕ) (s : SegInfo) : Type 0 where
  pub position : ℕ
  pub lying : Lying
  pub laid : slice_get ls position ≡ Some lying
  pub number : lying.0.«module» ≡ j
  pub index : lying.0.index ≡ i
  pub told : lying.0.segment ≡ s
  pub place : place_in ls j i ≡ Some lying.1

-- Each segment of each module is found among those that are laid.
abbrev pub SegmentsAreFound : Type 0
SegmentsAreFound = (o : Options) (ms : List (List Rec)) (l : Laid (List Lying)) → arranged o ms ≡ Some l
    → (j i : ℕ) (m : List Rec) (s : SegInfo) → slice_get ms j ≡ Some m → entry (segments m) i ≡ Some s → IsLaidAt l.what j i s

-- A segment is as the SEGDEF of its index and the comments define it, in these records of its module.
pub record IsToldBy (m : List Rec) (x : Portion) : Type 0 where
  pub attribute : ℕ
  pub told : entry (segments m) x.index ≡ Some x.segment
  pub attributed : entry (attributes m) x.index ≡ Some attribute
  pub whole : x ≡ portion m x.«module» x.index x.segment attribute

-- A segment of one of several modules, as its SEGDEF defines it, and its place in its module's placement.
pub record IsPlaced (ms : List (List Rec)) (pls : List Places) (x : Lying) : Type 0 where
  pub own : List Rec
  pub places : Places
  pub own_is : slice_get ms x.0.«module» ≡ Some own
  pub places_are : slice_get pls x.0.«module» ≡ Some places
  pub said : IsToldBy own x.0
  pub place : entry places.segments x.0.index ≡ Some x.1

-- Segment i of module j has a place.
pub record IsPlacedAt (ms : List (List Rec)) (pls : List Places) (j i : ℕ) : Type 0 where
  pub lying : Lying
  pub is : IsPlaced ms pls lying
  pub number : lying.0.«module» ≡ j
  pub index : lying.0.index ≡ i

-- Each segment of each module has a place. By these places too, one that is not absolute is at its alignment. Of two different such segments one ends before
-- the other begins, unless both are common and have one place: no byte is in two that are not common.
pub record PlacedLieApart (o : Options) (ms : List (List Rec)) (l : Laid (List Places)) : Type 0 where
  pub every : (j i : ℕ) (m : List Rec) (s : SegInfo) → slice_get ms j ≡ Some m → entry (segments m) i ≡ Some s → IsPlacedAt ms l.what j i
  pub well : (x : Lying) → IsPlaced ms l.what x → IsRelocatable x → LiesWithin o.frames o.base l.free x
  pub apart : (x y : Lying) → IsPlaced ms l.what x → IsPlaced ms l.what y → IsRelocatable x → IsRelocatable y → place_of x.0 ≢ place_of y.0 → LieApart x y ⊎ LieApart y x

abbrev pub PlacesLieApart : Type 0
PlacesLieApart = (o : Options) (ms : List (List Rec)) (l : Laid (List Places)) → arranged_places o ms ≡ Some l → PlacedLieApart o ms l

-- The segments laid of several modules are those of their runs, in order; each is as its own SEGDEF defines it.
abbrev pub ArrangedAsTold : Type 0
ArrangedAsTold = (o : Options) (ms : List (List Rec)) (l : Laid (List Lying)) → arranged o ms ≡ Some l
    → (map (λ x. x.0) l.what ≡ flat_map in_order (runs ms))
    × ((k : ℕ) (x : Lying) (m : List Rec) → slice_get l.what k ≡ Some x → slice_get ms x.0.«module» ≡ Some m → IsToldBy m x.0)

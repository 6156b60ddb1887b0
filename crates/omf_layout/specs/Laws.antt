-- Laws of layouts, each the contract of a function of the same name.
use Rattle.std.specs.Prelude.{◌≡◌, ℕ, ◌+◌, ◌*◌, ◌<◌, ◌≤◌, List, Some, None, slice_get}
use Rattle.omf_records.specs.Values.{Rec}
use Rattle.omf_check.specs.Tables.{segments}
use Rattle.omf_check.specs.declared.segment.SegInfo.{SegInfo}
use Rattle.omf_placement.specs.declared.frame.Placed.{Placed}
use Rattle.omf_layout.specs.declared.alignment.Alignment.{Alignment}
use Rattle.omf_layout.specs.declared.options.Options.{Options}
use Rattle.omf_layout.specs.Layout.{LaidOut, layout_of}
use Rattle.omf_layout.specs.Draft.{draft_text}
use Rattle.omf_layout.specs.Reading.{AreShort, IsReadBack}
use Rattle.omf_layout.specs.Room.{limit}
use Rattle.omf_layout.specs.Wants.{alignments, bytes_aligned, rooms}

-- n is a multiple of `step`.
pub record IsMultiple (step n : ℕ) : Type 0 where
  pub times : ℕ
  pub product : n ≡ times * step

-- Segment i (from 0) is not absolute: its SEGDEF, its alignment and its place.
pub record IsRelocatable (m : List Rec) (l : LaidOut) (i : ℕ) (s : SegInfo) (a : Alignment) (p : Placed) : Type 0 where
  pub told : slice_get (segments m) i ≡ Some s
  pub relative : s.absolute ≡ None
  pub aligned : slice_get l.alignments i ≡ Some a
  pub placed : slice_get l.places.segments i ≡ Some p

-- Such a segment is at a multiple of its alignment, at or above the base and below the limit.
pub record LiesWell (o : Options) (s : SegInfo) (a : Alignment) (p : Placed) : Type 0 where
  pub multiple : IsMultiple (bytes_aligned a) p.address
  pub from : o.base ≤ p.address
  pub below : p.address < limit o.frames
  pub end : p.address + s.length ≤ limit o.frames

-- And the earlier of two ends before the later begins: no byte is in both.
pub record SegmentsLieApart (o : Options) (m : List Rec) (l : LaidOut) : Type 0 where
  pub well : (i : ℕ) (s : SegInfo) (a : Alignment) (p : Placed) → IsRelocatable m l i s a p → LiesWell o s a p
  pub apart : (i j : ℕ) (s t : SegInfo) (a b : Alignment) (p q : Placed) → i < j → IsRelocatable m l i s a p → IsRelocatable m l j t b q → p.address + s.length ≤ q.address

abbrev pub LayoutsLieApart : Type 0
LayoutsLieApart = (o : Options) (m : List Rec) (l : LaidOut) → layout_of o m ≡ Some l → SegmentsLieApart o m l

-- The text of a layout is a placement text with exactly the layout's entries, and gives the module the layout's places.
abbrev pub DraftsAreRead : Type 0
DraftsAreRead = (o : Options) (m : List Rec) (l : LaidOut) → layout_of o m ≡ Some l → AreShort l.places → IsReadBack o.frames m l.places (draft_text o.frames m l)

-- A layout has for each segment its alignment: that in its SEGDEF, or 4,096 bytes if a comment raises it.
abbrev pub LayoutsKeepAlignments : Type 0
LayoutsKeepAlignments = (o : Options) (m : List Rec) (l : LaidOut) → layout_of o m ≡ Some l → l.alignments ≡ alignments m

-- Segment i (from 0) and its place, if it is not absolute.
pub record IsLaidSegment (m : List Rec) (l : LaidOut) (i : ℕ) (s : SegInfo) (p : Placed) : Type 0 where
  pub told : slice_get (segments m) i ≡ Some s
  pub relative : s.absolute ≡ None
  pub placed : slice_get l.places.segments i ≡ Some p

-- External i (from 0) is a communal of `size` bytes, at this place.
pub record IsCommunal (m : List Rec) (l : LaidOut) (i size : ℕ) (p : Placed) : Type 0 where
  pub asked : slice_get (rooms m) i ≡ Some (Some size)
  pub placed : slice_get l.places.externals i ≡ Some p

-- Segments that are not absolute end before the first free address, and before each communal. A communal begins at a multiple of 4 and ends before the first
-- free address; the earlier of two ends before the later begins.
pub record CommunalsLie (m : List Rec) (l : LaidOut) : Type 0 where
  pub free : (i : ℕ) (s : SegInfo) (p : Placed) → IsLaidSegment m l i s p → p.address + s.length ≤ l.free
  pub after : (i : ℕ) (s : SegInfo) (p : Placed) (j size : ℕ) (q : Placed) → IsLaidSegment m l i s p → IsCommunal m l j size q → p.address + s.length ≤ q.address
  pub communal : (j size : ℕ) (q : Placed) → IsCommunal m l j size q → IsMultiple 4 q.address × (q.address + size ≤ l.free)
  pub apart : (i j size other : ℕ) (p q : Placed) → i < j → IsCommunal m l i size p → IsCommunal m l j other q → p.address + size ≤ q.address

abbrev pub CommunalsLieApart : Type 0
CommunalsLieApart = (o : Options) (m : List Rec) (l : LaidOut) → layout_of o m ≡ Some l → CommunalsLie m l

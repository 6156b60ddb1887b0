-- Placements moved by paragraphs, as DOS moves a program to the paragraph where it is loaded (this profile's rule).
use Rattle.std.specs.Prelude.{◌≡◌, ℕ, ◌+◌, ◌*◌, List, [], ◌∷◌, length, Bool, false, unwrap_or, if◌then◌else◌}
use Rattle.omf_check.specs.Tables.{entry}
use Rattle.omf_check.specs.declared.method.FrameMethod.{FrameMethod}
use Rattle.omf_check.specs.declared.method.TargetMethod.{TargetMethod}
use Rattle.omf_records.specs.declared.method.Kind.{Kind}
use Rattle.omf_records.specs.declared.method.Kind.TheVariants as kinds
use Rattle.omf_placement.specs.declared.frame.Frame.{Frame}
use Rattle.omf_placement.specs.declared.frame.Placed.{Placed}
use Rattle.omf_placement.specs.Placement.{Places, framed}
use Rattle.omf_output.specs.declared.exe.movers.Moving.{Moving}

-- Which segments, groups and externals move with the program, in index order. Absolute segments, frames over them and constants stay.
pub record Movers : Type 0 where
  pub segments : List Bool
  pub groups : List Bool
  pub externals : List Moving

-- There is a flag for each entry of a placement.
pub record AreMoversOf (mv : Movers) (pl : Places) : Type 0 where
  pub segments : length mv.segments ≡ length pl.segments
  pub groups : length mv.groups ≡ length pl.groups
  pub externals : length mv.externals ≡ length pl.externals

-- A paragraph has 16 bytes, and a selector counts paragraphs.
abbrev pub moved_frame : ℕ → Frame → Frame
moved_frame k f = record { base = f.base + 16 * k; selector = f.selector + k }

abbrev pub moved_place : ℕ → Placed → Placed
moved_place k p = record { address = p.address + 16 * k; frame = moved_frame k p.frame }

abbrev pub where_moving : {A : Type 0} → (A → A) → List Bool → List A → List A
where_moving f [] xs = xs
where_moving f (b ∷ bs) [] = []
where_moving f (b ∷ bs) (x ∷ xs) = (if b then f x else x) ∷ where_moving f bs xs

-- A place whose address moves or stays, and whose frame does.
abbrev pub parted_place : ℕ → Moving → Placed → Placed
parted_place k b p = record { address = if b.address then p.address + 16 * k else p.address; frame = if b.frame then moved_frame k p.frame else p.frame }

abbrev pub where_parted : ℕ → List Moving → List Placed → List Placed
where_parted k [] xs = xs
where_parted k (b ∷ bs) [] = []
where_parted k (b ∷ bs) (x ∷ xs) = parted_place k b x ∷ where_parted k bs xs

-- The placement with all that moves moved by k paragraphs, and all else where it is.
abbrev pub moved : ℕ → Movers → Places → Places
moved k mv pl = record {
  segments = where_moving (moved_place k) mv.segments pl.segments;
  groups = where_moving (moved_frame k) mv.groups pl.groups;
  externals = where_parted k mv.externals pl.externals;
}

-- Whether the entry with an index, from 1, moves; an entry outside the list does not.
abbrev pub moves : List Bool → ℕ → Bool
moves bs i = unwrap_or (entry bs i) false

-- The address and the frame of a segment or a group move together.
abbrev pub both : Bool → Moving
both b = record { address = b; frame = b }

abbrev pub moving_at : List Moving → ℕ → Moving
moving_at bs i = unwrap_or (entry bs i) (both false)

-- How the entry of a table moves.
abbrev pub moving_in : Movers → Kind → ℕ → Moving
moving_in mv kinds.Segment i = both (moves mv.segments i)
moving_in mv kinds.Group i = both (moves mv.groups i)
moving_in mv kinds.External i = moving_at mv.externals i

abbrev pub moving_of : Movers → TargetMethod → Moving
moving_of mv t = moving_in mv t.kind t.index

-- Whether the address of a target moves; and whether a frame does, of a reference of data in the segment `location`.
abbrev pub target_moves : Movers → TargetMethod → Bool
target_moves mv t = (moving_of mv t).address

abbrev pub frame_moves : Movers → ℕ → TargetMethod → FrameMethod → Bool
frame_moves mv location target f = (moving_of mv (framed location target f)).frame

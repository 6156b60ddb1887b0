-- The modules of a program: where their segments end, their stack and their start.
use Rattle.std.specs.Prelude.{ℕ, ◌+◌, List, [], ◌∷◌, map, max, filter, filter_map, flat_map, fold, zip, Bool, ◌==◌, ◌&&◌, nat_lt, not, Option, Some, None, if◌then◌else◌}
use Rattle.std.specs.Option.{option_or}
use Rattle.omf_records.specs.Values.{Contents, Rec, Segment, SegmentItem, combination}
use Rattle.omf_check.specs.Module.{recs_of}
use Rattle.omf_check.specs.Tables.{segment_length}
use Rattle.omf_placement.specs.declared.frame.Placed.{Placed}
use Rattle.omf_placement.specs.Placement.{Places}
use Rattle.omf_output.specs.Exe.Memory.{MovingModule}
use Rattle.omf_output.specs.Exe.Moved.{Movers, moved}
use Rattle.omf_output.specs.declared.exe.room.Stack.{Stack}

-- A module of a program: the number by which faults name it, its bytes, its placement, and what moves of it.
pub record Member : Type 0 where
  pub number : ℕ
  pub bytes : List ℕ
  pub places : Places
  pub movers : Movers

abbrev pub moving : Member → MovingModule
moving m = record { records = recs_of m.bytes; places = m.places; movers = m.movers }

abbrev pub all_moving : List Member → List MovingModule
all_moving ms = map moving ms

-- The module with its placement moved by k paragraphs.
abbrev pub member_at : ℕ → Member → Member
member_at k m = record { number = m.number; bytes = m.bytes; places = moved k m.movers m.places; movers = m.movers }

-- A segment of the program: its place, the first address after it, and whether it is a part of the stack (TIS OMF 1.1, "SEGDEF", C field: combination 5).
-- Absolute segments are none of the program's.
pub record Portion : Type 0 where
  pub place : Placed
  pub end : ℕ
  pub is_stack : Bool

-- The SEGDEFs of a module in index order, each with the type of its record.
abbrev pub segdefs_in : ℕ → Contents → List (ℕ × SegmentItem)
segdefs_in kind (Segment s) = (kind, s) ∷ []
segdefs_in kind _ = []

abbrev pub segdefs : List Rec → List (ℕ × SegmentItem)
segdefs m = flat_map (λ r. segdefs_in r.kind r.contents) m

abbrev pub is_stack : ℕ → Bool
is_stack attribute = combination attribute == 5

abbrev pub portion_of : Option (ℕ × ℕ) → Placed × (ℕ × SegmentItem) → Option Portion
portion_of (Some frame) x = None
portion_of None x = Some (record { place = x.0; end = x.0.address + segment_length x.1.0 x.1.1; is_stack = is_stack x.1.1.attribute })

abbrev pub portion : Placed × (ℕ × SegmentItem) → Option Portion
portion x = portion_of x.1.1.absolute x

abbrev pub portions_in : Member → List Portion
portions_in m = filter_map portion (zip m.places.segments (segdefs (recs_of m.bytes)))

abbrev pub portions : List Member → List Portion
portions ms = flat_map portions_in ms

-- The first address after the segments.
abbrev pub memory_end : List Portion → ℕ
memory_end ps = fold max 0 (map (λ p. p.end) ps)

-- Of two segments the one that begins lower; the first if they begin at one address.
abbrev pub lower : Portion → Portion → Portion
lower p q = if nat_lt q.place.address p.place.address then q else p

-- Of segments of the stack: the address and the frame of the lowest, and the first address after all of them.
abbrev pub of_parts : Portion → ℕ → Stack
of_parts lowest end = record { frame = lowest.place.frame; first = lowest.place.address; end = end }

abbrev pub joined : List Portion → Option Stack
joined [] = None
joined (p ∷ ps) = Some (of_parts (fold lower p ps) (fold max p.end (map (λ q. q.end) ps)))

abbrev pub has_byte : Portion → Bool
has_byte p = nat_lt p.place.address p.end

-- The stack (this profile's rule): its segments that have a byte, or the empty ones if none has.
abbrev pub stack : List Portion → Option Stack
stack ps = option_or (joined (filter (λ p. p.is_stack && has_byte p) ps)) (joined (filter (λ p. p.is_stack && not (has_byte p)) ps))

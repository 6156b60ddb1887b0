-- The relocation words of a program: those that hold the selector of a frame that moves (which words these are is this profile's rule; the MZ format,
-- relocation table).
use Rattle.std.specs.Prelude.{◌⊎◌, ℕ, ◌+◌, ◌≤◌, ◌==◌, ◌&&◌, ◌||◌, List, [], ◌∷◌, map, fold, filter_map, All, Bool, Option, Some, None, option_map, if◌then◌else◌, ⊤}
use Rattle.omf_check.specs.Threads.{same}
use Rattle.omf_records.specs.Values.{location_type, location_offset, is_segment_relative}
use Rattle.omf_records.specs.declared.location.LocationType.{LocationType}
use Rattle.omf_records.specs.declared.location.LocationType.TheVariants.{LowByte, Offset16, Base, Pointer16, HighByte, LoaderOffset16, Offset32, Pointer32, LoaderOffset32}
use Rattle.omf_image.specs.Parts.{Addition, add_part}
use Rattle.omf_reloc.specs.Additions.{type_of_number}
use Rattle.omf_reloc.specs.Plain.{PlainFixup}
use Rattle.omf_reloc.specs.Laws.{location_end}
use Rattle.omf_output.specs.Exe.Moved.{Movers, moves, frame_moves, target_moves}

-- Whether a location is a base (TIS OMF 1.1, "FIXUPP", LOCATION: type 2), which holds a selector alone.
abbrev pub is_base : ℕ → Bool
is_base locat = location_type locat == 2

-- Whether a fixup of data in a segment moves with the program. A base holds the frame's selector alone. Any other offset in a frame needs the target to
-- move where the frame does; and a self-relative offset needs the data to move with both.
abbrev pub moves_together : Movers → ℕ → ℕ × PlainFixup → Bool
moves_together mv segment f =
    let r = f.1.reference in
    let frame = frame_moves mv segment r.target r.frame in
    let target = target_moves mv r.target in
    if is_segment_relative f.1.locat
    then is_base f.1.locat || same frame target
    else same frame target && same frame (moves mv.segments segment)

-- Where the selector is in a location (TIS OMF 1.1, "FIXUPP", LOCATION): alone in a base, after the offset in a pointer; the others have none.
abbrev pub selector_at : LocationType → Option ℕ
selector_at LowByte = None
selector_at Offset16 = None
selector_at Base = Some 0
selector_at Pointer16 = Some 2
selector_at HighByte = None
selector_at LoaderOffset16 = None
selector_at Offset32 = None
selector_at Pointer32 = Some 4
selector_at LoaderOffset32 = None

-- Where the selector that moves is in the location of a fixup.
abbrev pub selector_moving : Movers → ℕ → ℕ × PlainFixup → Option ℕ
selector_moving mv segment f =
    let r = f.1.reference in
    if is_segment_relative f.1.locat && frame_moves mv segment r.target r.frame then selector_at (type_of_number (location_type f.1.locat)) else None

-- The additions, with k more at the selector.
abbrev pub more_at : ℕ → ℕ → Addition → Addition
more_at k at a = if a.offset == at then record { offset = a.offset; size = a.size; value = a.value + k } else a

abbrev pub more : ℕ → Option ℕ → List Addition → List Addition
more k None parts = parts
more k (Some at) parts = map (more_at k at) parts

-- The relocation words of a data record of a segment, each by its offset in the data, in file order.
abbrev pub site : Movers → ℕ → ℕ × PlainFixup → Option ℕ
site mv segment f = option_map (λ at. location_offset f.1.locat + at) (selector_moving mv segment f)

abbrev pub sites : Movers → ℕ → List (ℕ × PlainFixup) → List ℕ
sites mv segment fixups = filter_map (site mv segment) fixups

-- What a loader does at relocation words: k is added to each, modulo 2^16.
abbrev pub words_moved : ℕ → List ℕ → List ℕ → List ℕ
words_moved k words bytes = fold (λ bs at. add_part bs at 2 k) bytes words

-- No location of these fixups overlaps the word.
abbrev pub IsApart : List (ℕ × PlainFixup) → Option ℕ → Type 0
IsApart fixups None = ⊤
IsApart fixups (Some at) = All (λ f. (at + 2 ≤ (location_offset f.1.locat)) ⊎ (location_end f ≤ at)) fixups

-- Each relocation word is apart from the locations of the later fixups.
abbrev pub StandApart : Movers → ℕ → List (ℕ × PlainFixup) → Type 0
StandApart mv segment [] = ⊤
StandApart mv segment (f ∷ fixups) = IsApart fixups (site mv segment f) × StandApart mv segment fixups

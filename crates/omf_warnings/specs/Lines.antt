-- The lines of what a link text does unseen, by the names of modules and segments (this profile's rule).
use Rattle.std.specs.Prelude.{◌≡◌, ◌-◌, ◌==◌, ◌^◌, ℕ, List, [], ◌∷◌, ◌++◌, Result, codes, decimal, min, option_map, unwrap_or, if◌then◌else◌}
use Rattle.omf_frame.specs.Bytes.{AddsText}
use Rattle.omf_placement.specs.Quoted.{hex, quoted}
use Rattle.omf_linking.specs.declared.space.stretch.Owner.{Owner}
use Rattle.omf_records.specs.Values.{Rec}
use Rattle.omf_reloc.specs.declared.fault.Kind.{Kind}
use Rattle.omf_reloc.specs.declared.fault.Kind.TheVariants as kinds
use Rattle.omf_lines.specs.Named.{name_at, owner_text, segment_text}
use Rattle.omf_externals.specs.Unresolved.{label_of}
use Rattle.omf_warnings.specs.declared.finding.Finding.{Finding as Found}
use Rattle.omf_warnings.specs.declared.finding.Finding.TheVariants.{Overlap, Align, Group, Frames, Selector, Near}
use Rattle.omf_warnings.specs.declared.finding.Range.{Range}
use Rattle.omf_warnings.specs.declared.frames.Framed.{Framed}
use Rattle.omf_warnings.specs.declared.wide.FarMember.{FarMember as Far}
use Rattle.omf_lines.specs.Strays.{IsNearLine, AddsNear}

-- ---- parts of lines

-- A group of a module: its name, or its index if it has none.
abbrev pub group_text : List (List Rec) → ℕ → ℕ → List ℕ
group_text ms j i = unwrap_or (option_map quoted (name_at ms j kinds.Group i)) (decimal i)

-- The base of a frame.
abbrev pub base_text : ℕ → List ℕ
base_text base = codes " frame " ++ hex 8 base

-- A segment, its first address and its last.
abbrev pub last_of : Range → ℕ
last_of r = min (r.end - 1) (2 ^ 64 - 1)

abbrev pub range_text : List (List ℕ) → List (List Rec) → Range → List ℕ
range_text labels ms r = owner_text labels ms r.owner ++ 32 ∷ hex 8 r.first ++ codes " to " ++ hex 8 (last_of r)

-- A segment or a group.
abbrev pub part_text : List (List Rec) → Kind → ℕ → ℕ → List ℕ
part_text ms kinds.Group j i = codes " group " ++ group_text ms j i
part_text ms kinds.Segment j i = segment_text ms j i
part_text ms kinds.External j i = segment_text ms j i

-- The same with its frame.
abbrev pub framed_text : List (List ℕ) → List (List Rec) → Framed → List ℕ
framed_text labels ms f = label_of labels f.«module» ++ part_text ms f.kind f.«module» f.index ++ base_text f.frame.base ++ codes " selector " ++ hex 4 f.frame.selector

-- Where a member that is too far ends: the group and its frame before the segment; without a group the segment's frame after it.
abbrev pub far_end : Far → ℕ
far_end f = min f.end (2 ^ 64 - 1)

abbrev pub group_frame_text : List (List Rec) → Far → List ℕ
group_frame_text ms f = if f.group == 0 then [] else 32 ∷ group_text ms f.«module» f.group ++ base_text f.base ++ codes ","

abbrev pub own_frame_text : Far → List ℕ
own_frame_text f = if f.group == 0 then base_text f.base else []

abbrev pub end_text : Far → List ℕ
end_text f = codes " ends at " ++ hex 8 (far_end f) ++ codes ", " ++ decimal (far_end f - f.base - 65536) ++ codes " bytes too far"

abbrev pub far_text : List (List ℕ) → List (List Rec) → Far → List ℕ
far_text labels ms f = label_of labels f.«module» ++ group_frame_text ms f ++ segment_text ms f.«module» f.segment ++ own_frame_text f ++ end_text f

-- ---- lines

abbrev pub overlap_line : List (List ℕ) → List (List Rec) → Range → Range → List ℕ
overlap_line labels ms first second = codes "overlap: " ++ range_text labels ms first ++ codes ", " ++ range_text labels ms second ++ 10 ∷ []

abbrev pub align_line : List (List ℕ) → List (List Rec) → Owner → ℕ → ℕ → List ℕ
align_line labels ms o a n = codes "align: " ++ owner_text labels ms o ++ 32 ∷ hex 8 a ++ codes ", alignment " ++ decimal n ++ 10 ∷ []

abbrev pub group_line : List (List ℕ) → List (List Rec) → Far → List ℕ
group_line labels ms far = codes "group: " ++ far_text labels ms far ++ 10 ∷ []

abbrev pub frames_line : List (List ℕ) → List (List Rec) → Framed → Framed → List ℕ
frames_line labels ms first other = codes "frame: " ++ framed_text labels ms first ++ codes ", " ++ framed_text labels ms other ++ 10 ∷ []

abbrev pub selector_line : List (List ℕ) → List (List Rec) → Framed → List ℕ
selector_line labels ms framed = codes "frame: " ++ framed_text labels ms framed ++ codes ": the base is not 16 times the selector" ++ 10 ∷ []

-- The line of what is found.
abbrev pub IsLine : List (List ℕ) → List (List Rec) → Found → List ℕ → Type 0
IsLine labels ms (Overlap first second) line = line ≡ overlap_line labels ms first second
IsLine labels ms (Align o a n) line = line ≡ align_line labels ms o a n
IsLine labels ms (Group far) line = line ≡ group_line labels ms far
IsLine labels ms (Frames first other) line = line ≡ frames_line labels ms first other
IsLine labels ms (Selector framed) line = line ≡ selector_line labels ms framed
IsLine labels ms (Near stray) line = IsNearLine labels ms stray line

-- The lines of all that is found.
abbrev pub AreLines : List (List ℕ) → List (List Rec) → List Found → List ℕ → Type 0
AreLines labels ms [] text = text ≡ []
AreLines labels ms (f ∷ fs) text = (line : List ℕ) × (others : List ℕ) × IsLine labels ms f line × AreLines labels ms fs others × (text ≡ line ++ others)

-- A text has these lines after what it had.
abbrev pub HasLines : List (List ℕ) → List (List Rec) → List Found → List ℕ → List ℕ → Type 0
HasLines labels ms fs old new = (lines : List ℕ) × AreLines labels ms fs lines × (new ≡ old ++ lines)

abbrev pub AddsLine : {E : Type 0} → Result (Unit {0}) E → List (List ℕ) → List (List Rec) → Found → List ℕ → List ℕ → Type 0
AddsLine r labels ms (Overlap first second) old new = AddsText r old new (overlap_line labels ms first second)
AddsLine r labels ms (Align o a n) old new = AddsText r old new (align_line labels ms o a n)
AddsLine r labels ms (Group far) old new = AddsText r old new (group_line labels ms far)
AddsLine r labels ms (Frames first other) old new = AddsText r old new (frames_line labels ms first other)
AddsLine r labels ms (Selector framed) old new = AddsText r old new (selector_line labels ms framed)
AddsLine r labels ms (Near stray) old new = AddsNear r labels ms stray old new

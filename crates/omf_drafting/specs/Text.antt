-- The draft of a link's text (this profile's rule): the lines of each module, after a line `M` that names it.
use Rattle.std.specs.Prelude.{ℕ, List, [], ◌∷◌, ◌++◌, flat_map, zip, Bool, Option, option_map, codes, decimal, if◌then◌else◌}
use Rattle.std.specs.List.{enumerate_from}
use Rattle.omf_records.specs.Values.{Rec}
use Rattle.omf_check.specs.Tables.{names, segments}
use Rattle.omf_check.specs.declared.segment.SegInfo.{SegInfo}
use Rattle.omf_placement.specs.Derive.{named_externals}
use Rattle.omf_placement.specs.declared.frame.Frame.{Frame}
use Rattle.omf_placement.specs.declared.frame.Placed.{Placed}
use Rattle.omf_placement.specs.Entries.{in_words}
use Rattle.omf_placement.specs.Placement.{Places, real_frame}
use Rattle.omf_placement.specs.Quoted.{number, named, quoted}
use Rattle.omf_layout.specs.declared.alignment.Alignment.{Alignment}
use Rattle.omf_layout.specs.declared.options.Frames.{Frames}
use Rattle.omf_layout.specs.declared.options.Frames.TheVariants.{Real, Flat}
use Rattle.omf_layout.specs.declared.options.Options.{Options}
use Rattle.omf_layout.specs.Draft.{alignment_text, is_same_frame, room_text}
use Rattle.omf_layout.specs.Wants.{alignments, rooms}
use Rattle.omf_layout.specs.Several.Placing.{arranged_places}
use Rattle.omf_linking.specs.Locator.Drafted.{Sharing, sharing_of}
use Rattle.omf_linking.specs.Locator.KeyForms.{is_repeated, key_form, key_text, key_words, module_key_by, module_texts}
use Rattle.omf_linking.specs.Locator.Keys.{module_name}
use Rattle.omf_linking.specs.declared.locator.forms.KeyForm.{KeyForm}
use Rattle.omf_reloc.specs.declared.fault.Kind.TheVariants as kinds
use Rattle.omf_externals.specs.Names.{has_name, seen_names}

-- The line before the lines of module j: its name as a key, or its number from 1 if another module has the name.
abbrev pub opening_by : Bool → ℕ → List Rec → List ℕ
opening_by repeated j m = codes "M " ++ key_words (module_key_by repeated j m) ++ 10 ∷ []

abbrev pub opening_line : List (List Rec) → ℕ → List Rec → List ℕ
opening_line ms j m = opening_by (is_repeated (module_texts ms) (quoted (module_name m))) j m

-- A place of its own: in real mode a segment in the frame of its paragraph has its address and `real`; any other its address, base and selector.
abbrev pub full_place : Placed → List ℕ
full_place p = in_words (number p.address ∷ number p.frame.base ∷ number p.frame.selector ∷ [])

abbrev pub own_place : Frames → Placed → List ℕ
own_place Real p = if is_same_frame (real_frame p.address) p.frame then in_words (number p.address ∷ codes "real" ∷ []) else full_place p
own_place (Flat selector) p = full_place p

-- A segment that shares the frame of its name has its address and `shared`.
abbrev pub place_text : Frames → Bool → Placed → List ℕ
place_text frames shared p = if shared then in_words (number p.address ∷ codes "shared" ∷ []) else own_place frames p

-- A line for each segment: its key, its place, and in a comment its class, its alignment in bytes and its length. Numbers in comments are decimal.
abbrev pub segment_comment : List Rec → SegInfo → Alignment → List ℕ
segment_comment m s a = codes "class " ++ named (names m) s.class ++ 32 ∷ alignment_text s.absolute a ++ codes " length " ++ decimal s.length

abbrev pub segment_line_by : Frames → List Rec → KeyForm → Bool → ℕ × ((SegInfo × Alignment) × Placed) → List ℕ
segment_line_by frames m form shared s = codes "S " ++ key_text m kinds.Segment form s.0 ++ 32 ∷ place_text frames shared s.1.1 ++ codes " ; " ++ segment_comment m s.1.0.0 s.1.0.1 ++ 10 ∷ []

abbrev pub segment_line : Frames → (ℕ → Frame → Bool) → List Rec → ℕ × ((SegInfo × Alignment) × Placed) → List ℕ
segment_line frames shares m s = segment_line_by frames m (key_form m kinds.Segment s.0) (shares s.0 s.1.1.frame) s

abbrev pub segment_lines : Frames → (ℕ → Frame → Bool) → List Rec → List Placed → List ℕ
segment_lines frames shares m xs = flat_map (segment_line frames shares m) (enumerate_from 1 (zip (zip (segments m) (alignments m)) xs))

-- A line for each group: its key and its frame, or `shared`.
abbrev pub frame_text : Bool → Frame → List ℕ
frame_text shared f = if shared then codes "shared" else in_words (number f.base ∷ number f.selector ∷ [])

abbrev pub group_line_by : List Rec → KeyForm → Bool → ℕ → Frame → List ℕ
group_line_by m form shared i f = codes "G " ++ key_text m kinds.Group form i ++ 32 ∷ frame_text shared f ++ 10 ∷ []

abbrev pub group_line : (ℕ → Frame → Bool) → List Rec → ℕ × Frame → List ℕ
group_line shares m g = group_line_by m (key_form m kinds.Group g.0) (shares g.0 g.1) g.0 g.1

abbrev pub group_lines : (ℕ → Frame → Bool) → List Rec → List Frame → List ℕ
group_lines shares m fs = flat_map (group_line shares m) (enumerate_from 1 fs)

-- The line that would give an external its place, in a comment, followed by a communal's length.
abbrev pub wanted_line_by : List Rec → KeyForm → ℕ → Option ℕ → List ℕ
wanted_line_by m form i room = codes "; X " ++ key_text m kinds.External form i ++ codes " address base selector ; " ++ room_text room ++ 10 ∷ []

-- It is printed for each external that sees no public of its name.
abbrev pub external_by : Bool → List Rec → KeyForm → ℕ → Option ℕ → List ℕ
external_by seen m form i room = if seen then [] else wanted_line_by m form i room

abbrev pub external_text : (Bool → List (List ℕ)) → List Rec → ℕ × ((List ℕ × Bool) × Option ℕ) → List ℕ
external_text among m e = external_by (has_name (among e.1.0.1) e.1.0.0) m (key_form m kinds.External e.0) e.0 e.1.1

abbrev pub wanted_lines : (Bool → List (List ℕ)) → List Rec → List ℕ
wanted_lines among m = flat_map (external_text among m) (enumerate_from 1 (zip (named_externals m) (rooms m)))

-- The lines of a module, and the line before them, by the module's number from 0.
abbrev pub part_text : Frames → Sharing → (Bool → List (List ℕ)) → List Rec → Places → List ℕ
part_text frames shares among m pl = segment_lines frames shares.segment m pl.segments ++ group_lines shares.group m pl.groups ++ wanted_lines among m

abbrev pub module_text : Frames → List (List Rec) → List Places → ℕ × (List Rec × Places) → List ℕ
module_text frames ms pls m = opening_line ms m.0 m.1.0 ++ part_text frames (sharing_of ms pls m.0 m.1.0) (seen_names ms m.1.0) m.1.0 m.1.1

-- The text of modules at these places.
abbrev pub link_text : Frames → List (List Rec) → List Places → List ℕ
link_text frames ms pls = flat_map (module_text frames ms pls) (enumerate_from 0 (zip ms pls))

-- The draft of modules; none if a segment does not fit.
abbrev pub drafted : Options → List (List Rec) → Option (List ℕ)
drafted o ms = option_map (λ l. link_text o.frames ms l.what) (arranged_places o ms)

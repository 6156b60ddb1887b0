-- The choice among the COMDATs of one name in several modules, in the order of a link (TIS OMF 1.1, "COMDAT": a linker takes one instance, and leaves the others out
-- with their fixups; the selection criteria).
use Rattle.std.specs.Prelude.{ℕ, ◌+◌, List, [], ◌∷◌, ◌++◌, map, flat_map, filter, bytes_eq, Bool, false, not, ◌==◌, ◌&&◌, ◌||◌, Option, Some, None, if◌then◌else◌}
use Rattle.std.specs.List.{AllZip, list_any}
use Rattle.std.specs.Cmp.Lexicographic.{pointwise}
use Rattle.omf_frame.specs.Bytes.{with_before}
use Rattle.omf_frame.specs.Types.{is_local}
use Rattle.omf_records.specs.Values.{At, Contents, DataItem, Fixups, Iterated, Plain, PublicItem, Publics, Rec, Segment}
use Rattle.omf_check.specs.Module.{Module, recs_of}
use Rattle.omf_check.specs.Tables.{segment_length}
use Rattle.omf_lowering.specs.Marks.{selection_by}
use Rattle.omf_lowering.specs.Unrolled.{is_fixup}
use Rattle.omf_trimming.specs.Without.{IsWithout, count_after}
use Rattle.omf_trimming.specs.declared.without.LeftPublics.TheVariants.{Nameless}

-- The data of a segment: of each LEDATA and LIDATA of it the type, the offset and the bytes, as one list.
abbrev pub data_if : Bool → ℕ → DataItem → List (List ℕ)
data_if own kind d = if own then (kind ∷ d.offset.item ∷ d.bytes) ∷ [] else []

abbrev pub data_by : ℕ → ℕ → Contents → List (List ℕ)
data_by segment kind (Plain d) = data_if (d.segment.item == segment) kind d
data_by segment kind (Iterated d) = data_if (d.segment.item == segment) kind d
data_by segment kind _ = []

abbrev pub data_of : ℕ → List Rec → List (List ℕ)
data_of segment m = flat_map (λ r. data_by segment r.kind r.contents) m

-- An instance of a module: its name, the index of its segment, its selection, and the length and the data of the segment.
pub record Marked : Type 0 where
  pub name : List ℕ
  pub segment : ℕ
  pub selection : ℕ
  pub size : ℕ
  pub data_pieces : List (List ℕ)

-- The one name of a PUBDEF whose base is the segment with this index. A PUBDEF of more names, or an LPUBDEF, has none.
abbrev pub only_name : Bool → List (At PublicItem) → Option (List ℕ)
only_name own (p ∷ []) = if own then Some p.item.name else None
only_name own _ = None

abbrev pub name_by : ℕ → ℕ → Contents → Option (List ℕ)
name_by segment kind (Publics p) = only_name (not (is_local kind) && (p.segment.item == segment)) p.items
name_by segment kind _ = None

-- The instance of a module whose SEGDEF is followed by such a PUBDEF and a mark.
abbrev pub marked_if : List Rec → ℕ → ℕ → Option (List ℕ) → Option ℕ → List Marked
marked_if m segment size (Some name) (Some selection) = record { name = name; segment = segment; selection = selection; size = size; data_pieces = data_of segment m } ∷ []
marked_if m segment size _ _ = []

abbrev pub marked_after : List Rec → ℕ → ℕ → List Rec → List Marked
marked_after m segment size (p ∷ mark ∷ rest) = marked_if m segment size (name_by segment p.kind p.contents) (selection_by mark.contents)
marked_after m segment size _ = []

abbrev pub marked_at : List Rec → ℕ → ℕ → Contents → List Rec → List Marked
marked_at m segment kind (Segment s) rest = marked_after m segment (segment_length kind s) rest
marked_at m segment kind _ rest = []

-- The instances of a module that begin in these records of it, after this many SEGDEFs.
abbrev pub marked_from : List Rec → ℕ → List Rec → List Marked
marked_from m count [] = []
marked_from m count (r ∷ rest) = marked_at m (count + 1) r.kind r.contents rest ++ marked_from m (count_after count r.contents) rest

-- A FIXUPP without a FIXUP: it is empty, or sets THREADs alone (TIS OMF 1.1, "FIXUPP").
abbrev pub fixes_nothing : Contents → Bool
fixes_nothing (Fixups subs) = not (list_any (λ s. is_fixup s.item) subs)
fixes_nothing _ = false

-- The records of a module without these: such a FIXUPP is of no segment, wherever it is.
abbrev pub past_threads : List Rec → List Rec
past_threads m = filter (λ r. not (fixes_nothing r.contents)) m

-- The instances of a module.
abbrev pub instances : List Rec → List Marked
instances m = marked_from m 0 (past_threads m)

-- Whether a selection lets a linker take one instance for another: 0, no match, never; 1, pick any, always; 2, same size, if the sizes are equal; 3, exact match, if the
-- sizes and the data are equal; others never.
abbrev pub allows : ℕ → Marked → Marked → Bool
allows selection one other = (selection == 1) || (((selection == 2) || ((selection == 3) && pointwise bytes_eq one.data_pieces other.data_pieces)) && (one.size == other.size))

-- Two instances agree if the selections of both allow it.
abbrev pub agree : Marked → Marked → Bool
agree one other = allows one.selection one other && allows other.selection one other

-- The first of these instances with a name.
abbrev pub first_named : List Marked → List ℕ → Option Marked
first_named [] name = None
first_named (i ∷ rest) name = if bytes_eq i.name name then Some i else first_named rest name

-- Whether an instance is left out: one of these before it has its name, and it agrees with the first such.
abbrev pub agrees_with : Option Marked → Marked → Bool
agrees_with None i = false
agrees_with (Some first) i = agree first i

abbrev pub is_left_out : List Marked → Marked → Bool
is_left_out before i = agrees_with (first_named before i.name) i

-- The segments of the instances of a module that are left out after these modules.
abbrev pub left_out : List Module → Module → List ℕ
left_out before m = map (λ i. i.segment) (filter (is_left_out (flat_map (λ k. instances (recs_of k.bytes)) before)) (instances (recs_of m.bytes)))

-- The segments of each module that are left out.
abbrev pub all_left_out : List Module → List (List ℕ)
all_left_out ms = with_before (λ before m. left_out before m ∷ []) [] ms

-- Each module without its instances that are left out after the modules before it.
abbrev pub IsChosen : Module × List ℕ → Module → Type 0
IsChosen c out = IsWithout Nameless c.1 c.0 out

abbrev pub with_left_out : List Module → List (Module × List ℕ)
with_left_out ms = with_before (λ before m. (m, left_out before m) ∷ []) [] ms

abbrev pub AreChosen : List Module → List Module → Type 0
AreChosen ms out = AllZip IsChosen (with_left_out ms) out

-- The segments of a program that its starts and its data reach, and the modules without those of the others that may be left out: debug information, which a linker lays in
-- no memory, and code (this profile's rule; as Open Watcom's OPTION ELIMINATE, which leaves out code alone).
use Rattle.std.specs.Prelude.{◌≡◌, ℕ, ◌≤◌, List, [], ◌∷◌, length, map, flat_map, filter, codes, bytes_eq, All, Contains, Bool, false, not, ◌==◌, ◌&&◌, ◌||◌, Option, Some, None, is_some, option_to_list, slice_get, if◌then◌else◌}
use Rattle.std.specs.List.{AllZip, enumerate_from, list_any}
use Rattle.omf_frame.specs.Bytes.{with_before}
use Rattle.omf_records.specs.Values.{Contents, GroupItem, Iterated, Plain, Rec}
use Rattle.omf_records.specs.declared.method.Kind.{Kind}
use Rattle.omf_records.specs.declared.method.Kind.TheVariants as kinds
use Rattle.omf_check.specs.Classes.{is_code_class}
use Rattle.omf_check.specs.Module.{Module, recs_of, typed_modules}
use Rattle.omf_check.specs.Tables.{entry, groups, last_data, names, segments, subrecords}
use Rattle.omf_check.specs.Threads.{PlainReference}
use Rattle.omf_check.specs.declared.method.FrameMethod.{FrameMethod}
use Rattle.omf_check.specs.declared.method.FrameMethod.TheVariants.{Of}
use Rattle.omf_check.specs.declared.method.TargetMethod.{TargetMethod}
use Rattle.omf_check.specs.declared.segment.SegInfo.{SegInfo}
-- computed: derived_is_taken of omf_placement.
use Rattle.omf_placement.specs.Inner.Linkage.{definer_at, linkage}
use Rattle.omf_placement.specs.Weak.{weak_pairs}
use Rattle.omf_placement.specs.declared.several.pairs.WeakPair.{WeakPair}
use Rattle.omf_placement.specs.declared.several.sources.Definer.{Definer}
use Rattle.omf_placement.specs.declared.several.sources.Definer.TheVariants.{Only}
use Rattle.omf_reloc.specs.Plain.{End, Fixed, Kept, Piece, piece_of}
use Rattle.omf_trimming.specs.Without.{IsWithout}
use Rattle.omf_trimming.specs.declared.optional.LeftOut.{LeftOut}
use Rattle.omf_trimming.specs.declared.without.LeftPublics.{LeftPublics}

-- A segment of a program: the number of its module, from 0, and its index there, from 1. The index 0 is the module's start.
abbrev pub Node : Type 0
Node = ℕ × ℕ

abbrev pub IsNode : List (List Rec) → Node → Type 0
IsNode ms n = (m : List Rec) × (slice_get ms n.0 ≡ Some m) × (n.1 ≤ length (segments m))

-- The segment of the data of an LEDATA or an LIDATA.
abbrev pub data_segment : Contents → ℕ
data_segment (Plain d) = d.segment.item
data_segment (Iterated d) = d.segment.item
data_segment _ = 0

abbrev pub segment_of : Option Contents → ℕ
segment_of None = 0
segment_of (Some c) = data_segment c

-- What a start refers to: its target, and the entry of which it takes the frame (TIS OMF 1.1, "MODEND").
abbrev pub frame_targets : FrameMethod → List TargetMethod
frame_targets (Of t) = t ∷ []
frame_targets _ = []

abbrev pub start_targets : Option PlainReference → List TargetMethod
start_targets None = []
start_targets (Some r) = r.target ∷ frame_targets r.frame

-- The references of a piece after data of a segment: the targets of fixups are of that segment (TIS OMF 1.1, "FIXUPP"), those of a start of the index 0.
abbrev pub piece_uses : ℕ → Piece → List (ℕ × TargetMethod)
piece_uses segment (Fixed kind fixups) = map (λ f. (segment, f.reference.target)) fixups
piece_uses segment (End kind byte start) = map (λ t. (0, t)) (start_targets start)
piece_uses segment (Kept r) = []

-- The references of a record after others, with their threads resolved, and those of a module.
abbrev pub record_uses : List Rec → Rec → List (ℕ × TargetMethod)
record_uses before r = piece_uses (segment_of (last_data before)) (piece_of (subrecords before) r.kind r.contents)

abbrev pub uses : List Rec → List (ℕ × TargetMethod)
uses m = with_before record_uses [] m

-- The targets of the references of one segment.
abbrev pub targets_of : ℕ → List (ℕ × TargetMethod) → List TargetMethod
targets_of segment us = map (λ u. u.1) (filter (λ u. u.0 == segment) us)

-- The segments of a target: T0 is a segment, T1 each member of a group, T2 the segment of the only public that an external can refer to, or if no public has its name,
-- that of its default's (TIS OMF 1.1, "FIXUPP", "COMENT": WKEXT, LZEXT).
abbrev pub group_segments : ℕ → Option GroupItem → List Node
group_segments j None = []
group_segments j (Some g) = map (λ x. (j, x.item.item)) g.members

abbrev pub public_segments : Option Definer → List Node
public_segments (Some (Only s)) = (s.base.«module», s.base.segment) ∷ []
public_segments _ = []

abbrev pub default_segment : List (List (Option Definer)) → ℕ → ℕ → WeakPair → List Node
default_segment links j i p = if p.weak == i then public_segments (definer_at links j p.substitute) else []

abbrev pub default_segments : List (List (Option Definer)) → List Rec → ℕ → ℕ → List Node
default_segments links m j i = flat_map (default_segment links j i) (weak_pairs m)

abbrev pub public_or : List Node → Option Definer → List Node
public_or defaults None = defaults
public_or defaults (Some d) = public_segments (Some d)

abbrev pub means_by : List (List (Option Definer)) → List Rec → ℕ → Kind → ℕ → List Node
means_by links m j kinds.Segment i = (j, i) ∷ []
means_by links m j kinds.Group i = group_segments j (entry (groups m) i)
means_by links m j kinds.External i = public_or (default_segments links m j i) (definer_at links j i)

abbrev pub means : List (List (Option Definer)) → List Rec → ℕ → TargetMethod → List Node
means links m j t = means_by links m j t.kind t.index

-- What a segment of a program refers to.
abbrev pub next_in : List (List (Option Definer)) → Node → List Rec → List Node
next_in links n m = flat_map (means links m n.0) (targets_of n.1 (uses m))

abbrev pub next : List (List Rec) → Node → List Node
next ms n = flat_map (next_in (linkage ms) n) (option_to_list (slice_get ms n.0))

-- The classes of segments that may be left out: of code, and of debug information DEBSYM and DEBTYP, Microsoft's, of segments $$SYMBOLS and $$TYPES, and
-- DWARF, Watcom's (this profile's rule).
abbrev pub is_debug_class : List ℕ → Bool
is_debug_class c = bytes_eq c (codes "DEBSYM") || (bytes_eq c (codes "DEBTYP") || bytes_eq c (codes "DWARF"))

abbrev pub is_optional_class : LeftOut → List ℕ → Bool
is_optional_class o c = (o.code && is_code_class c) || (o.debug && is_debug_class c)

abbrev pub is_optional_name : LeftOut → Option (List ℕ) → Bool
is_optional_name o None = false
is_optional_name o (Some c) = is_optional_class o c

-- Whether a segment stays, whatever refers to it: its class is none of these, or it is absolute.
abbrev pub always_stays : LeftOut → List (List ℕ) → SegInfo → Bool
always_stays o ns s = is_some s.absolute || not (is_optional_name o (entry ns s.class))

-- The segments of a module that may be left out, by their indices.
abbrev pub optional_segment : LeftOut → List (List ℕ) → ℕ × SegInfo → List ℕ
optional_segment o ns s = if always_stays o ns s.1 then [] else s.0 ∷ []

abbrev pub optional_segments : LeftOut → List Rec → List ℕ
optional_segments o m = flat_map (optional_segment o (names m)) (enumerate_from 1 (segments m))

abbrev pub has_optional : LeftOut → List (List Rec) → Bool
has_optional o ms = list_any (λ m. not (length (optional_segments o m) == 0)) ms

abbrev pub roots_of : LeftOut → ℕ → List Rec → List Node
roots_of o j m = (j, 0) ∷ map (λ s. (j, s.0)) (filter (λ s. always_stays o (names m) s.1) (enumerate_from 1 (segments m)))

abbrev pub roots : LeftOut → List (List Rec) → List Node
roots o ms = flat_map (λ m. roots_of o m.0 m.1) (enumerate_from 0 ms)

-- These segments are enough: they have those that stay, and each segment of the program that one of them refers to.
pub record AreClosed (o : LeftOut) (ms : List (List Rec)) (set : List Node) : Type 0 where
  pub first : (n : Node) → Contains (roots o ms) n → IsNode ms n → Contains set n
  pub others : (n k : Node) → Contains set n → Contains (next ms n) k → IsNode ms k → Contains set k

-- The segments that are reached: the least that are enough.
pub record AreReached (o : LeftOut) (ms : List (List Rec)) (set : List Node) : Type 0 where
  pub closed : AreClosed o ms set
  pub least : (others : List Node) → AreClosed o ms others → All (Contains others) set

-- The segments of a module that are not among these.
abbrev pub is_among : List Node → Node → Bool
is_among [] n = false
is_among (k ∷ ks) n = ((k.0 == n.0) && (k.1 == n.1)) || is_among ks n

abbrev pub unreached : List Node → ℕ → List Rec → List ℕ
unreached set j m = filter (λ i. not (is_among set (j, i))) (map (λ s. s.0) (enumerate_from 1 (segments m)))

-- Each module without its segments that are not reached.
abbrev pub IsWithoutUnreached : LeftPublics → List Node → ℕ × Module → Module → Type 0
IsWithoutUnreached publics set m out = IsWithout publics (unreached set m.0 (recs_of m.1.bytes)) m.1 out

pub record AreWithoutUnreached (publics : LeftPublics) (o : LeftOut) (ms out : List Module) : Type 0 where
  pub set : List Node
  pub reached : AreReached o (typed_modules ms) set
  pub each : AllZip (IsWithoutUnreached publics set) (enumerate_from 0 ms) out

-- The segments that records name by their indices (TIS OMF 1.1, "GRPDEF", "PUBDEF", "LEDATA", "LIDATA", "FIXUPP", "MODEND", "BAKPAT"). The segment of a COMDAT has an index past
-- those of the module's SEGDEFs, and only the COMDAT's name may refer to it (this profile's rule).
use Rattle.std.specs.Prelude.{ℕ, List, [], ◌∷◌, ◌++◌, length, map, flat_map, ◌==◌, nat_lt, Bool, false, Option, Some, None, option_map, if◌then◌else◌}
use Rattle.std.specs.List.{find, list_any}
use Rattle.omf_frame.specs.Fault.{Fault}
use Rattle.omf_frame.specs.Framing.{Raw, is_taken}
use Rattle.omf_frame.specs.declared.fault.Reason.TheVariants as reason
use Rattle.omf_records.specs.Layout.{fault}
use Rattle.omf_records.specs.Values.{At, Contents, Group, Publics, Plain, Iterated, Fixups, ModEnd, Reference, Subrecord, Thread, Fixup, frame_bits, target_bits, thread_method}
-- computed: readings_meet_layouts and contents_are_typed_once of omf_records.
use Rattle.omf_records.specs.Inner.Reading.{typed}
use Rattle.omf_lowering.specs.Values.{Instance, Tables}

-- The index of a datum, if its method is F0 or T0, a segment.
abbrev pub of_segment : ℕ → Option (At ℕ) → List (At ℕ)
of_segment method None = []
of_segment method (Some index) = if method == 0 then index ∷ [] else []

-- The segments that a reference names: its frame's, and its target's.
abbrev pub in_reference : Reference → List (At ℕ)
in_reference r = of_segment (frame_bits r.fix.item) r.frame ++ of_segment (target_bits r.fix.item) r.target

-- The segment that a THREAD names, if its method is F0 or T0.
abbrev pub in_thread : Subrecord → List (At ℕ)
in_thread (Thread byte datum) = of_segment (thread_method byte) datum
in_thread (Fixup locat r) = []

abbrev pub in_subrecord : Subrecord → List (At ℕ)
in_subrecord (Thread byte datum) = of_segment (thread_method byte) datum
in_subrecord (Fixup locat r) = in_reference r

abbrev pub in_start : Option Reference → List (At ℕ)
in_start None = []
in_start (Some r) = in_reference r

-- The segments that contents name, in the order of the record: the members of a group, the base of public names, the segment of data, those of THREADs and FIXUPs, and
-- those of a start.
abbrev pub segments_named : Contents → List (At ℕ)
segments_named (Group g) = map (λ m. m.item) g.members
segments_named (Publics p) = p.segment ∷ []
segments_named (Plain d) = d.segment ∷ []
segments_named (Iterated d) = d.segment ∷ []
segments_named (Fixups subs) = flat_map (λ s. in_subrecord s.item) subs
segments_named (ModEnd byte start) = in_start start
segments_named _ = []

-- An index is past a number of segments.
abbrev pub is_past : ℕ → At ℕ → Bool
is_past count index = nat_lt count index.item

-- The fault of the first of these indices that is past a number of segments.
abbrev pub first_past : ℕ → List (At ℕ) → Option Fault
first_past count indices = option_map (λ index. fault index.within reason.UndefinedSegment) (find (is_past count) indices)

-- The fault of the segments that a record after a COMDAT names. The module has all its SEGDEFs then. Without a COMDAT before it, an index past the SEGDEFs is for `check` to
-- refuse: of an LEDATA, an LIDATA, a PUBDEF, an LPUBDEF, a GRPDEF or a FIXUP it is judged by the SEGDEFs before it; and a BAKPAT then finds no data but of an LEDATA or
-- LIDATA that `check` refuses.
abbrev pub segment_fault : Tables → List Instance → List (At ℕ) → Option Fault
segment_fault t instances indices = if length instances == 0 then None else first_past (length t.segments) indices

-- A record has a THREAD that names a segment past a number of segments. `check` judges the index of a THREAD only where it is used, so that one before the first COMDAT may be
-- used after it.
abbrev pub has_thread_past : ℕ → Contents → Bool
has_thread_past count (Fixups subs) = list_any (λ s. list_any (is_past count) (in_thread s.item)) subs
has_thread_past count _ = false

abbrev pub names_thread_past : ℕ → Raw → Bool
names_thread_past count r = if is_taken r.kind then has_thread_past count (typed r).contents else false

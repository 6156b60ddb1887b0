-- The entries of tables and the threads that a record uses.
use Rattle.std.specs.Prelude.{◌≡◌, ℕ, List, [], ◌∷◌, ◌++◌, length, map, All, IsTrue, ◌==◌, if◌then◌else◌, Option, Some, None, option_map}
use Rattle.omf_frame.specs.Bytes.{with_before}
use Rattle.omf_records.specs.Values.{Rec, Contents, Segment, Group, Publics, Plain, Iterated, Fixups, ModEnd, Subrecord, Thread, Fixup, Reference}
use Rattle.omf_check.specs.Tables.{names, segments, groups, entries, is_defined, subrecords}
use Rattle.omf_check.specs.Threads.{FrameMethod, Of, frame_of, target_of}

-- An index that is used, with the number of entries of its table. An index of 0 is none, where it may be that.
abbrev pub use_of : ℕ → ℕ → List (Option (ℕ × ℕ))
use_of n i = Some (i, n) ∷ []

abbrev pub use_or_none : ℕ → ℕ → List (Option (ℕ × ℕ))
use_or_none n i = if i == 0 then [] else use_of n i

-- What a frame or a target uses: an entry of a table; F4 and F5 use none. None is a thread that is not set.
abbrev pub method_uses : List Rec → Option FrameMethod → List (Option (ℕ × ℕ))
method_uses before None = None ∷ []
method_uses before (Some (Of t)) = use_of (entries before t.kind) t.index
method_uses before (Some _) = []

abbrev pub reference_uses : List Rec → List Subrecord → Reference → List (Option (ℕ × ℕ))
reference_uses before earlier r = method_uses before (frame_of earlier r) ++ method_uses before (option_map Of (target_of earlier r))

abbrev pub subrecord_uses : List Rec → List Subrecord → Subrecord → List (Option (ℕ × ℕ))
subrecord_uses before earlier (Thread byte datum) = []
subrecord_uses before earlier (Fixup locat r) = reference_uses before (subrecords before ++ earlier) r

-- All that a record uses, after the records before it. No rule looks at indices of overlay names and of types.
abbrev pub uses : List Rec → Contents → List (Option (ℕ × ℕ))
uses before (Segment s) = use_or_none (length (names before)) s.name.item ++ use_or_none (length (names before)) s.class.item
uses before (Group g) = use_or_none (length (names before)) g.name.item ++ map (λ m. Some (m.item.item, length (segments before))) g.members
uses before (Publics p) = use_or_none (length (groups before)) p.group.item ++ use_or_none (length (segments before)) p.segment.item
uses before (Plain d) = use_of (length (segments before)) d.segment.item
uses before (Iterated d) = use_of (length (segments before)) d.segment.item
uses before (Fixups subs) = with_before (subrecord_uses before) [] (map (λ s. s.item) subs)
uses before (ModEnd byte (Some r)) = reference_uses before (subrecords before) r
uses before _ = []

-- Every index and every thread that is used is defined.
abbrev pub IsDefinedUse : Option (ℕ × ℕ) → Type 0
IsDefinedUse None = ⊥
IsDefinedUse (Some u) = IsTrue (is_defined u.1 u.0)

abbrev pub UsesAreDefined : List Rec → Type 0
UsesAreDefined m = (before after : List Rec) (r : Rec) → m ≡ before ++ r ∷ after → All IsDefinedUse (uses before r.contents)

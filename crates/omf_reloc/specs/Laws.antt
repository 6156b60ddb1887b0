-- Laws about the definitions, each the contract of a function of the same name.
use Rattle.std.specs.Prelude.{◌≡◌, ◌≢◌, ◌⊎◌, ◌↔◌, ℕ, ◌+◌, ◌<◌, ◌≤◌, List, Some, None, true, Ok, IsOk, ◌∷◌, ◌++◌, map, length, slice_index, All}
use Rattle.std.specs.List.{AllZip}
use Rattle.omf_frame.specs.declared.fault.Place.{Place}
use Rattle.omf_records.specs.Location.{row_of}
use Rattle.omf_records.specs.Values.{DataItem, Rec, Plain, Subrecord, Reference, location_type, location_offset}
use Rattle.omf_image.specs.Limits.{profile_limits}
use Rattle.omf_image.specs.Parts.{Addition}
use Rattle.omf_check.specs.Rules.{length_of_segment}
use Rattle.omf_check.specs.Tables.{segments, groups, externals, entry, is_defined}
use Rattle.omf_check.specs.declared.segment.SegInfo.{SegInfo}
use Rattle.omf_check.specs.Threads.{PlainReference, plain}
-- computed: threads_are_kept of omf_check.
use Rattle.omf_check.specs.Inner.Kept.{HasThreads}
use Rattle.omf_check.specs.declared.threads.Threads.{Threads}
use Rattle.omf_placement.specs.Derivation.{IsPlaceOf}
use Rattle.omf_reloc.specs.declared.fault.Kind.{Kind}
use Rattle.omf_reloc.specs.declared.fault.ReachFault.TheVariants as reach
use Rattle.omf_placement.specs.Derive.{PlacedModule}
-- computed: derived_is_taken of omf_placement.
use Rattle.omf_placement.specs.Inner.Derived.{derived}
use Rattle.omf_placement.specs.declared.several.given.Given.{Given}
use Rattle.omf_reloc.specs.Plain.{Piece, Kept, End, PlainFixup, pieces, data_contents, fixups_of_data}
-- computed: faults_are_walked of omf_reloc.
use Rattle.omf_reloc.specs.Inner.Pieces.{single_pieces, reference_places}
use Rattle.omf_placement.specs.Placement.{Places, absolute_place}
use Rattle.omf_reloc.specs.Reach.{causes, all_reference_places, far_faults, reach_fault, Reaches}
-- computed: faults_are_walked of omf_reloc.
use Rattle.omf_reloc.specs.Inner.ReachSteps.{pieces_far}
-- computed: threads_give_references of omf_reloc.
use Rattle.omf_reloc.specs.Inner.Walking.{plain_by}
use Rattle.omf_reloc.specs.Offsets.{outcome, start_outcome}
use Rattle.omf_reloc.specs.Image.{laid, patched}

-- Where the location of a fixup ends in the data; all locations are inside data of this length.
abbrev pub location_end : ℕ × PlainFixup → ℕ
location_end f = location_offset f.1.locat + (row_of (location_type f.1.locat)).size

abbrev pub AreInside : ℕ → List (ℕ × PlainFixup) → Type 0
AreInside size fixups = All (λ f. location_end f ≤ size) fixups

-- Fixups whose locations are inside their data change no other byte, and keep the data's length.
pub record StaysInside (pl : Places) (d : DataItem) (fixups : List (ℕ × PlainFixup)) : Type 0 where
  pub size : length (patched pl d fixups) ≡ length d.bytes
  pub elsewhere : (x : ℕ) → All (λ f. (x < location_offset f.1.locat) ⊎ (location_end f ≤ x)) fixups → slice_index (patched pl d fixups) x ≡ slice_index d.bytes x

abbrev pub PatchesStayInside : Type 0
PatchesStayInside = (pl : Places) (d : DataItem) (fixups : List (ℕ × PlainFixup)) → AreInside (length d.bytes) fixups → StaysInside pl d fixups

-- A placement fits a module: its lists are as long as the tables, and each absolute segment is placed where its SEGDEF puts it.
pub record Fits (pl : Places) (m : List Rec) : Type 0 where
  pub segment_count : length pl.segments ≡ length (segments m)
  pub group_count : length pl.groups ≡ length (groups m)
  pub external_count : length pl.externals ≡ length (externals m)
  pub absolute : (i number offset : ℕ) (info : SegInfo) → entry (segments m) i ≡ Some info → info.absolute ≡ Some (number, offset)
      → entry pl.segments i ≡ Some (absolute_place number offset)

-- It fits, and every fixup and the start reach.
pub record AllReach (pl : Places) (m : List Rec) : Type 0 where
  pub fits : Fits pl m
  pub each : All (λ c. c ≡ None) (causes pl (pieces m))

-- A placement has no fault of reach exactly if it fits and all reach; and there is a place for each reference that is checked.
pub record ReachIsDecided (pl : Places) (m : List Rec) : Type 0 where
  pub decided : Reaches pl m ↔ AllReach pl m
  pub places : length (causes pl (pieces m)) ≤ length (all_reference_places m)

-- References resolved by the threads in force are those of the definition, which searches the earlier subrecords for each thread.
abbrev pub ThreadsGiveReferences : Type 0
ThreadsGiveReferences = (threads : Threads) (earlier : List Subrecord) (r : Reference) → HasThreads threads earlier → plain_by threads r ≡ plain earlier r

-- In a well-formed module each reference has a place of its own. The references that do not reach are those found by a walk over the
-- module's pieces, one fixup at a time, in the same order.
pub record FaultsAreWalked (pl : Places) (m : List Rec) : Type 0 where
  pub places : length (causes pl (pieces m)) ≡ length (all_reference_places m)
  pub faults : (ps : List (Place × Piece)) → map (λ p. p.1) ps ≡ single_pieces m → reference_places ps ≡ all_reference_places m → far_faults pl m ≡ pieces_far pl None ps

-- If a placement reaches, every fixup of each data record has something to add, and a start has its frame and its offset.
pub record AllAreAdded (pl : Places) (m : List Rec) : Type 0 where
  pub fixups : (before after : List Piece) (r : Rec) (d : DataItem) → pieces m ≡ before ++ Kept r ∷ after → data_contents r.contents ≡ Some d
      → All (λ f. IsOk (outcome pl d f)) (fixups_of_data after)
  pub start : (before after : List Piece) (kind byte : ℕ) (r : PlainReference) → pieces m ≡ before ++ End kind byte (Some r) ∷ after → IsOk (start_outcome pl kind r)

-- `size` bytes at an offset are inside a segment, which is defined.
pub record LiesInSegment (m : List Rec) (segment offset size : ℕ) : Type 0 where
  pub segment_defined : is_defined (length (segments m)) segment ≡ true
  pub inside : offset + size ≤ length_of_segment m segment

-- An LEDATA and its fixups: its data are inside their segment; each location, and each part that a fixup adds to, is inside the data; no
-- other byte changes.
pub record PatchesLieIn (pl : Places) (m : List Rec) (d : DataItem) (fixups : List (ℕ × PlainFixup)) : Type 0 where
  pub data_inside : LiesInSegment m d.segment.item d.offset.item (length d.bytes)
  pub locations : AreInside (length d.bytes) fixups
  pub parts : All (λ f. (parts : List Addition) → outcome pl d f ≡ Ok parts → All (λ a. location_offset f.1.locat + a.offset + a.size ≤ length d.bytes) parts) fixups
  pub stays : StaysInside pl d fixups

-- Every byte that is laid is inside its segment, and every byte that a fixup changes is inside the data of its LEDATA.
pub record AllLieInside (pl : Places) (m : List Rec) : Type 0 where
  pub each_piece : All (λ l. LiesInSegment m l.segment l.offset (length l.bytes)) (laid profile_limits pl (pieces m))
  pub each_patch : (before after : List Piece) (r : Rec) (d : DataItem) → pieces m ≡ before ++ Kept r ∷ after → r.contents ≡ Plain d → PatchesLieIn pl m d (fixups_of_data after)

-- A placement never has a missing or an extra entry.
pub record IsComplete (m : PlacedModule) (pl : Places) : Type 0 where
  pub never_missing : (k : Kind) (i : ℕ) → reach_fault pl m.0 ≢ Some (reach.Missing k i)
  pub never_extra : (k : Kind) (i : ℕ) → reach_fault pl m.0 ≢ Some (reach.Extra k i)

abbrev pub DerivedAreComplete : Type 0
DerivedAreComplete = (ms : List PlacedModule) (given : List Given) (pls : List Places) → All (λ m. IsPlaceOf m.0 m.1) ms → derived ms given ≡ Ok pls → AllZip IsComplete ms pls

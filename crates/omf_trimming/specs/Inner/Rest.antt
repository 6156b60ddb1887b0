-- A module without some segments, as the code makes it.
use Rattle.std.specs.Prelude.{ℕ, ◌+◌, List, [], ◌++◌, Bool, if◌then◌else◌}
use Rattle.omf_frame.specs.Bytes.{is_one_of}
use Rattle.omf_frame.specs.Framing.{raw_bytes}
use Rattle.omf_records.specs.Shortest.{subrecord_bytes}
use Rattle.omf_records.specs.Values.{Contents, Fixups, Iterated, Plain, PublicItems, Publics, Segment, Subrecord}
use Rattle.omf_check.specs.declared.contents.Publics.{Publics as CodePublics}
use Rattle.omf_trimming.specs.Without.{count_after, emptied, is_thread, started, threads_alone, written}
use Rattle.omf_trimming.specs.declared.without.LeftPublics.{LeftPublics}
use Rattle.omf_trimming.specs.declared.without.LeftPublics.TheVariants.{AtStart, Gone, Nameless}

-- A subrecord that is a THREAD.
abbrev pub thread_bytes : ℕ → Subrecord → List ℕ
thread_bytes kind s = if is_thread s then subrecord_bytes kind s else []

-- The bytes that are left of a record of these bytes.
abbrev pub bytes_of : ℕ → Contents → List ℕ
bytes_of kind c = raw_bytes (written kind c)

abbrev pub publics_left : LeftPublics → ℕ → PublicItems → List ℕ
publics_left Gone kind p = []
publics_left Nameless kind p = []
publics_left AtStart kind p = bytes_of kind (Publics (started p))

abbrev pub bytes_by : LeftPublics → List ℕ → ℕ → Bool → List ℕ → ℕ → Contents → List ℕ
bytes_by publics gone segment after_gone bytes kind (Segment s) = if is_one_of gone segment then bytes_of kind (Segment (emptied publics s)) else bytes
bytes_by publics gone segment after_gone bytes kind (Publics p) = if is_one_of gone p.segment.item then publics_left publics kind p else bytes
bytes_by publics gone segment after_gone bytes kind (Plain d) = if is_one_of gone d.segment.item then [] else bytes
bytes_by publics gone segment after_gone bytes kind (Iterated d) = if is_one_of gone d.segment.item then [] else bytes
bytes_by publics gone segment after_gone bytes kind (Fixups subs) = if after_gone then bytes_of kind (Fixups (threads_alone subs)) else bytes
bytes_by publics gone segment after_gone bytes kind _ = bytes

-- The records so far without some segments: the number of SEGDEFs, whether the last data went, and the bytes that are left.
pub record RestSoFar : Type 0 where
  pub publics : LeftPublics
  pub gone : List ℕ
  pub segments : ℕ
  pub after_gone : Bool
  pub bytes : List ℕ

abbrev pub with_bytes : RestSoFar → List ℕ → RestSoFar
with_bytes s bytes = record s { bytes = s.bytes ++ bytes }

-- Whether the last data went, after a record with these contents.
abbrev pub gone_after : RestSoFar → Contents → Bool
gone_after s (Plain d) = is_one_of s.gone d.segment.item
gone_after s (Iterated d) = is_one_of s.gone d.segment.item
gone_after s _ = s.after_gone

abbrev pub rest_after : RestSoFar → List ℕ → ℕ → Contents → RestSoFar
rest_after s bytes kind c = record {
  publics = s.publics;
  gone = s.gone;
  segments = count_after s.segments c;
  after_gone = gone_after s c;
  bytes = s.bytes ++ bytes_by s.publics s.gone (s.segments + 1) s.after_gone bytes kind c;
}

-- The contents of a PUBDEF.
abbrev pub public_items : CodePublics → PublicItems
public_items p = record { group = p.group; segment = p.segment; frame = p.frame; items = p.items }

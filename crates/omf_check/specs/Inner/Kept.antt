-- The state that a checker keeps of the records so far.
use Rattle.std.specs.Prelude.{◌≡◌, ◌<◌, ◌≤◌, ℕ, ◌+◌, List, [], ◌∷◌, ◌++◌, length, map, get_or, set, Bool, true, false, Option, Some, None, option_map, if◌then◌else◌}
use Rattle.omf_frame.specs.Types.{is_local}
use Rattle.omf_records.specs.Inner.Names.{thread_number}
use Rattle.omf_records.specs.Values.{At, Rec, Contents, Names, Segment, Group, Externs, Communals, Plain, Iterated, Fixups, ModEnd, Subrecord, Thread, Fixup, thread_is_frame, thread_method}
use Rattle.omf_check.specs.Inner.Names.{segment_info, frame_from, target_from}
use Rattle.omf_check.specs.Tables.{names, segments, attributes, groups, externals, locals, item_count, items_in, subrecords, last_data}
use Rattle.omf_check.specs.Threads.{FrameMethod, TargetMethod, setting, thread}
use Rattle.omf_check.specs.declared.segment.SegInfo.{SegInfo}
use Rattle.omf_check.specs.declared.last_data.LastData.{LastData}
use Rattle.omf_check.specs.declared.last_data.LastData.TheVariants as last
use Rattle.omf_check.specs.declared.threads.Threads.{Threads}

-- the method of the frame thread with a number, and of the target thread
abbrev pub kept_frame : Threads → ℕ → Option FrameMethod
kept_frame threads k = get_or threads.frames k None

abbrev pub kept_target : Threads → ℕ → Option TargetMethod
kept_target threads k = get_or threads.targets k None

-- no thread is set
abbrev pub no_threads : Threads
no_threads = record { frames = None ∷ None ∷ None ∷ None ∷ []; targets = None ∷ None ∷ None ∷ None ∷ [] }

-- the threads after one more subrecord; after some
abbrev pub set_thread : Threads → Subrecord → Threads
set_thread threads (Thread byte datum) =
    if thread_is_frame byte then record threads { frames = set threads.frames (thread_number byte) (Some (frame_from (setting (thread_method byte) datum))) }
    else record threads { targets = set threads.targets (thread_number byte) (Some (target_from (setting (thread_method byte) datum))) }
set_thread threads (Fixup locat r) = threads

abbrev pub set_threads : Threads → List (At Subrecord) → Threads
set_threads threads [] = threads
set_threads threads (s ∷ subs) = set_threads (set_thread threads s.item) subs

-- the threads after one more record; after some
abbrev pub threads_after : Threads → Contents → Threads
threads_after threads (Fixups subs) = set_threads threads subs
threads_after threads _ = threads

abbrev pub threads_through : Threads → List Rec → Threads
threads_through threads [] = threads
threads_through threads (r ∷ rs) = threads_through (threads_after threads r.contents) rs

-- the offsets of the names, GRPDEF records and external names in the module; whether each external is local; the segments, and the
-- attribute byte of each; the offset of the MODEND, or 0 before it; the number of items; the last data record; the threads
pub record Kept : Type 0 where
  pub names : List ℕ
  pub segments : List SegInfo
  pub attributes : List ℕ
  pub groups : List ℕ
  pub externals : List ℕ
  pub locals : List Bool
  pub end : ℕ
  pub items : ℕ
  pub last : Option LastData
  pub threads : Threads

abbrev pub nothing_kept : Kept
nothing_kept = record { names = []; segments = []; attributes = []; groups = []; externals = []; locals = []; end = 0; items = 0; last = None; threads = no_threads }

-- the offsets of items whose record starts at offset `at` of the module
abbrev pub starts : {A : Type 0} → ℕ → List (At A) → List ℕ
starts at items = map (λ a. at + a.within) items

-- one value for each item
abbrev pub alike : {A : Type 0} → Bool → List A → List Bool
alike b items = map (λ a. b) items

abbrev pub with_contents : Kept → ℕ → ℕ → Contents → Kept
with_contents kept at kind (Names items) = record kept { names = kept.names ++ starts at items }
with_contents kept at kind (Segment s) = record kept { segments = kept.segments ++ segment_info kind s ∷ []; attributes = kept.attributes ++ s.attribute ∷ [] }
with_contents kept at kind (Group g) = record kept { groups = kept.groups ++ at ∷ [] }
with_contents kept at kind (Externs items) = record kept { externals = kept.externals ++ starts at items; locals = kept.locals ++ alike (is_local kind) items }
with_contents kept at kind (Communals items) = record kept { externals = kept.externals ++ starts at items; locals = kept.locals ++ alike (is_local kind) items }
with_contents kept at kind (Plain d) = record kept { last = Some (last.Plain (length d.bytes)) }
with_contents kept at kind (Iterated d) = record kept { last = Some last.Iterated }
with_contents kept at kind (Fixups subs) = record kept { threads = set_threads kept.threads subs }
with_contents kept at kind (ModEnd t s) = record kept { end = at }
with_contents kept at kind _ = kept

abbrev pub with_record : Kept → ℕ → Rec → Kept
with_record kept at r = with_contents (record kept { items = kept.items + items_in r.contents }) at r.kind r.contents

-- the state kept of the last data record
abbrev pub last_kept : Contents → LastData
last_kept (Plain d) = last.Plain (length d.bytes)
last_kept _ = last.Iterated

-- The threads are those in force after these subrecords.
pub record HasThreads (threads : Threads) (subs : List Subrecord) : Type 0 where
  pub frames : length threads.frames ≡ 4
  pub targets : length threads.targets ≡ 4
  pub same_frames : (k : ℕ) → k < 4 → kept_frame threads k ≡ option_map frame_from (thread true k subs)
  pub same_targets : (k : ℕ) → k < 4 → kept_target threads k ≡ option_map target_from (thread false k subs)

-- The state determines all that the rules depend on in the records before.
pub record Tells (kept : Kept) (before : List Rec) : Type 0 where
  pub names : length kept.names ≡ length (names before)
  pub segments : kept.segments ≡ segments before
  pub attributes : kept.attributes ≡ attributes before
  pub groups : length kept.groups ≡ length (groups before)
  pub externals : length kept.externals ≡ length (externals before)
  pub locals : kept.locals ≡ locals before
  pub items : kept.items ≡ item_count before
  pub last : kept.last ≡ option_map last_kept (last_data before)
  pub threads : HasThreads kept.threads (subrecords before)

-- No table is above its limit.
pub record IsBounded (kept : Kept) : Type 0 where
  pub names : length kept.names ≤ 32767
  pub segments : length kept.segments ≤ 32767
  pub groups : length kept.groups ≤ 32767
  pub externals : length kept.externals ≤ 32767
  pub items : kept.items ≤ 1048576

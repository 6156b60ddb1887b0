-- Placement texts, and the placements that they give a module (a format of this profile).
use Rattle.std.specs.Option.{option_or, option_map_or}
use Rattle.std.specs.Prelude.{◌≡◌, ℕ, List, map, filter_map, Option, Some, None, Result, Ok, Err, IsOk, ◌==◌, is_some, slice_get, if◌then◌else◌}
use Rattle.std.specs.List.{enumerate_from, slice_split}
use Rattle.omf_placement.specs.declared.fault.TextFault.{TextFault}
use Rattle.omf_placement.specs.declared.fault.TextFault.TheVariants.{Memory, Line}
use Rattle.omf_placement.specs.declared.frame.Frame.{Frame}
use Rattle.omf_records.specs.Values.{Rec}
use Rattle.omf_placement.specs.Placement.{Places, Placed, real_group}
use Rattle.omf_placement.specs.Entries.{Entry, SegmentEntry, GroupEntry, ExternalEntry, said}
-- computed: entries_are_read, places_are_read and numbers_are_read of omf_placement.
use Rattle.omf_placement.specs.Inner.EntryReading.{entry_said}

-- The lines of a text, each with its number from 1 and its entry, if any. Lines end at a line feed or at the end of the text.
abbrev pub numbered_lines : List ℕ → List (ℕ × List ℕ)
numbered_lines text = enumerate_from 1 (slice_split (λ c. c == 10) text)

abbrev pub line_entries : List ℕ → List (ℕ × Option Entry)
line_entries text = map (λ l. (l.0, entry_said (said l.1))) (numbered_lines text)

-- The entries of each letter, in order; those of groups with their line numbers.
abbrev pub segment_entry : ℕ × Option Entry → Option Placed
segment_entry (n, Some (SegmentEntry p)) = Some p
segment_entry _ = None

abbrev pub group_entry : ℕ × Option Entry → Option (ℕ × Option Frame)
group_entry (n, Some (GroupEntry f)) = Some (n, f)
group_entry _ = None

abbrev pub external_entry : ℕ × Option Entry → Option Placed
external_entry (n, Some (ExternalEntry p)) = Some p
external_entry _ = None

pub record Draft : Type 0 where
  pub segments : List Placed
  pub groups : List (ℕ × Option Frame)
  pub externals : List Placed

-- The draft that a text spells, or the first line at fault. It depends on no module, so a line that is no entry is reported before a group whose frame
-- cannot be found.
abbrev pub parsed : List ℕ → Result Draft ℕ
parsed text = option_map_or (λ n. Err n) (slice_get (filter_map (λ l. if is_some l.1 then None else Some l.0) (line_entries text)) 0)
    (Ok (record { segments = filter_map segment_entry (line_entries text); groups = filter_map group_entry (line_entries text); externals = filter_map external_entry (line_entries text) }))

-- A result is the defined one: exactly this value, or exactly this line at fault. Memory is returned only if no line is at fault.
abbrev pub IsAnswer : {A : Type 0} → Result A ℕ → Result A TextFault → Type 0
IsAnswer r (Ok a) = r ≡ Ok a
IsAnswer r (Err (Line n)) = r ≡ Err n
IsAnswer r (Err Memory) = IsOk r

-- The frame of the k-th group entry, from 1: its own, or that of the lowest member of the k-th group.
abbrev pub resolved_group : List Rec → List Placed → ℕ × (ℕ × Option Frame) → Option Frame
resolved_group m placed_segments g = option_or g.1.1 (real_group m placed_segments g.0)

-- The line of a group entry whose frame cannot be found.
abbrev pub unresolved_group : List Rec → List Placed → ℕ × (ℕ × Option Frame) → Option ℕ
unresolved_group m placed_segments g = if is_some (resolved_group m placed_segments g) then None else Some g.1.0

-- The placement that a draft gives a module, or the line of the first group whose frame cannot be found. All segment entries count, also those after the group's.
abbrev pub resolved : List Rec → Draft → Result Places ℕ
resolved m d = let numbered = enumerate_from 1 d.groups in
    option_map_or (λ n. Err n) (slice_get (filter_map (unresolved_group m d.segments) numbered) 0)
    (Ok (record { segments = d.segments; groups = filter_map (resolved_group m d.segments) numbered; externals = d.externals }))

-- The layout of a module (this profile's rule): its segments one after another from a base, then its communals, then one address for every other external.
use Rattle.std.specs.Prelude.{ℕ, ◌+◌, List, [], ◌∷◌, length, map, ◌++◌, Option, Some, None, option_map, option_and_then, unwrap_or, Result, Ok, Err, ◌≡◌, ⊤}
use Rattle.std.specs.List.{range_with_len, zip}
use Rattle.omf_records.specs.Values.{Rec}
use Rattle.omf_check.specs.Tables.{segments, groups}
use Rattle.omf_check.specs.declared.segment.SegInfo.{SegInfo}
use Rattle.omf_placement.specs.declared.frame.Frame.{Frame}
use Rattle.omf_placement.specs.declared.frame.Placed.{Placed}
use Rattle.omf_placement.specs.Placement.{Places, absolute_place, real_group}
use Rattle.omf_layout.specs.declared.alignment.Alignment.{Alignment}
use Rattle.omf_layout.specs.declared.fault.LayoutFault.{LayoutFault}
use Rattle.omf_layout.specs.declared.fault.LayoutFault.TheVariants.{Memory, NoRoom}
use Rattle.omf_layout.specs.declared.options.Frames.{Frames}
use Rattle.omf_layout.specs.declared.options.Frames.TheVariants.{Real, Flat}
use Rattle.omf_layout.specs.declared.options.Options.{Options}
use Rattle.omf_layout.specs.Room.{frame_at, anchor, address_from}
use Rattle.omf_layout.specs.Wants.{bytes_aligned, alignments, rooms}

-- What is laid, and the first free address after it.
pub record Laid (A : Type 0) : Type 0 where
  pub what : A
  pub free : ℕ

-- Items laid one after another, each from the free address after the one before; none if one of them does not fit.
abbrev pub and_then_more : {A : Type 0} → List A → Option (Laid (List A)) → Option (Laid (List A))
and_then_more before rest = option_map (λ l. record { what = before ++ l.what; free = l.free }) rest

abbrev pub all_laid : {A B : Type 0} → (ℕ → A → Option (Laid B)) → ℕ → List A → Option (Laid (List B))
all_laid lay free [] = Some (record { what = []; free = free })
all_laid lay free (x ∷ xs) = option_and_then (λ l. and_then_more (l.what ∷ []) (all_laid lay l.free xs)) (lay free x)

-- A segment at or after a free address: an absolute one where its SEGDEF puts it, taking no free room; any other at the first address of its alignment.
abbrev pub segment_at : Frames → ℕ → ℕ → ℕ → Option (ℕ × ℕ) → Option (Laid Placed)
segment_at frames alignment free size (Some a) = Some (record { what = absolute_place a.0 a.1; free = free })
segment_at frames alignment free size None = option_map (λ a. record { what = record { address = a; frame = frame_at frames a }; free = a + size }) (address_from frames alignment free size)

abbrev pub segment_laid : Frames → ℕ → SegInfo × Alignment → Option (Laid Placed)
segment_laid frames free s = segment_at frames (bytes_aligned s.1) free s.0.length s.0.absolute

-- The segments, each with its alignment.
abbrev pub segments_laid : Options → List Rec → Option (Laid (List Placed))
segments_laid o m = all_laid (segment_laid o.frames) o.base (zip (segments m) (alignments m))

-- The frame of a group: in real mode that of its lowest member, or the frame at address 0 if it has none; in flat mode the one frame.
abbrev pub group_frame : Frames → List Rec → List Placed → ℕ → Frame
group_frame Real m xs k = unwrap_or (real_group m xs k) (frame_at Real 0)
group_frame (Flat selector) m xs k = frame_at (Flat selector) 0

abbrev pub group_frames : Frames → List Rec → List Placed → List Frame
group_frames frames m xs = map (group_frame frames m xs) (range_with_len 1 (length (groups m)))

-- An external at or after a free address.
abbrev pub external_at : Options → ℕ → ℕ → ℕ → Option (Laid Placed)
external_at o alignment free size = option_map (λ a. record { what = record { address = a; frame = frame_at o.frames (anchor o.base a) }; free = a + size }) (address_from o.frames alignment free size)

-- A communal begins at a multiple of 4. The first free address after all communals.
abbrev pub communal_at : Options → ℕ → ℕ → Option (Laid Placed)
communal_at o free size = external_at o 4 free size

abbrev pub after_communals : Options → ℕ → List (Option ℕ) → Option ℕ
after_communals o free [] = Some free
after_communals o free (None ∷ rs) = after_communals o free rs
after_communals o free (Some size ∷ rs) = option_and_then (λ l. after_communals o l.free rs) (communal_at o free size)

-- The place of an external that is no communal: the first paragraph after the communals, if there is one.
abbrev pub spare : Options → ℕ → Option Placed
spare o after = option_map (λ l. l.what) (external_at o 16 after 0)

-- The externals, by their lengths: a communal has one, any other external none.
abbrev pub external_laid : Options → Option Placed → ℕ → Option ℕ → Option (Laid Placed)
external_laid o spare_place free None = option_map (λ p. record { what = p; free = free }) spare_place
external_laid o spare_place free (Some size) = communal_at o free size

abbrev pub externals_laid : Options → ℕ → List (Option ℕ) → Option (Laid (List Placed))
externals_laid o free rs = option_and_then (λ after. all_laid (external_laid o (spare o after)) free rs) (after_communals o free rs)

-- A layout: its places, the alignment of each segment, the length of each communal, and the first free address after what is laid.
pub record LaidOut : Type 0 where
  pub places : Places
  pub alignments : List Alignment
  pub rooms : List (Option ℕ)
  pub free : ℕ

abbrev pub laid_out : Options → List Rec → List Placed → Laid (List Placed) → LaidOut
laid_out o m xs l = record { places = record { segments = xs; groups = group_frames o.frames m xs; externals = l.what }; alignments = alignments m; rooms = rooms m; free = l.free }

-- The layout of a module; none if something does not fit.
abbrev pub layout_of : Options → List Rec → Option LaidOut
layout_of o m = option_and_then (λ s. option_map (laid_out o m s.what) (externals_laid o s.free (rooms m))) (segments_laid o m)

-- A result is the defined value, or NoRoom if there is none. It may be Memory in either case.
abbrev pub IsAnswer : {A : Type 0} → Option A → Result A LayoutFault → Type 0
IsAnswer o (Ok l) = o ≡ Some l
IsAnswer o (Err NoRoom) = o ≡ None
IsAnswer o (Err Memory) = ⊤

-- What the text of a layout gives when it is read back (this profile's rule).
use Rattle.std.specs.Prelude.{◌≡◌, ℕ, ◌+◌, ◌<◌, ◌^◌, List, length, map, All, Option, Some, None, Ok}
use Rattle.std.specs.List.{enumerate_from}
use Rattle.omf_records.specs.Values.{Rec}
use Rattle.omf_placement.specs.declared.frame.Frame.{Frame}
use Rattle.omf_placement.specs.declared.frame.Placed.{Placed}
use Rattle.omf_placement.specs.Placement.{Places, real_group}
use Rattle.omf_placement.specs.PlacementText.{Draft, parsed, resolved}
use Rattle.omf_layout.specs.declared.options.Frames.{Frames}
use Rattle.omf_layout.specs.declared.options.Frames.TheVariants.{Real, Flat}

-- A placement text has at most eight digits for an address or a frame's base, and four for a selector. Frames and places whose numbers fit.
pub record IsShortFrame (f : Frame) : Type 0 where
  pub base : f.base < 2 ^ 32
  pub selector : f.selector < 2 ^ 16

pub record IsShortPlace (p : Placed) : Type 0 where
  pub address : p.address < 2 ^ 32
  pub frame : IsShortFrame p.frame

pub record AreShort (pl : Places) : Type 0 where
  pub segments : All IsShortPlace pl.segments
  pub groups : All IsShortFrame pl.groups
  pub externals : All IsShortPlace pl.externals

-- The frame in a group's entry, by the group's index: its own; none for `G real`, in real mode.
abbrev pub unless_by_members : Option Frame → Frame → Option Frame
unless_by_members None f = Some f
unless_by_members (Some g) f = None

abbrev pub frame_given : Frames → List Rec → List Placed → ℕ × Frame → Option Frame
frame_given Real m xs g = unless_by_members (real_group m xs g.0) g.1
frame_given (Flat selector) m xs g = Some g.1

-- The entries of a layout: a place for each segment, a frame for each group with its line number after the segments' lines, a place for each external.
abbrev pub draft_entries : Frames → List Rec → Places → Draft
draft_entries frames m pl = record { segments = pl.segments; groups = enumerate_from (length pl.segments + 1) (map (frame_given frames m pl.segments) (enumerate_from 1 pl.groups)); externals = pl.externals }

-- A text parses, with no faulty line, to exactly these entries, and they give the module the layout's places.
pub record IsReadBack (frames : Frames) (m : List Rec) (pl : Places) (text : List ℕ) : Type 0 where
  pub parses : parsed text ≡ Ok (draft_entries frames m pl)
  pub resolves : resolved m (draft_entries frames m pl) ≡ Ok pl

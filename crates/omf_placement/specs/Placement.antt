-- Placements: the addresses and frames of a module's segments, groups and externals (TIS OMF 1.1, "FIXUPP", frames and targets).
use Rattle.std.specs.Option.{option_map_or}
use Rattle.std.specs.Prelude.{ℕ, ◌+◌, ◌*◌, List, [], ◌∷◌, Option, Some, None, option_map, option_and_then, if◌then◌else◌, nat_le, nat_lt, ◌/◌, ◌^◌}
use Rattle.omf_placement.specs.declared.frame.Frame.{Frame}
pub use Rattle.omf_placement.specs.declared.frame.Placed.{Placed}
use Rattle.omf_records.specs.Values.{At, Rec}
use Rattle.omf_check.specs.Tables.{groups, entry}
use Rattle.omf_check.specs.declared.method.FrameMethod.{FrameMethod}
use Rattle.omf_check.specs.declared.method.FrameMethod.TheVariants as frames
use Rattle.omf_check.specs.declared.method.TargetMethod.{TargetMethod}
use Rattle.omf_records.specs.declared.method.Kind.{Kind}
use Rattle.omf_records.specs.declared.method.Kind.TheVariants as kinds

-- The places of the segments, the frames of the groups, the places of the externals, in index order.
pub record Places : Type 0 where
  pub segments : List Placed
  pub groups : List Frame
  pub externals : List Placed

-- The place of a target, if it has an entry. The address of a group is the base of its frame.
abbrev pub group_place : Frame → Placed
group_place f = record { address = f.base; frame = f }

abbrev pub place_in : Places → Kind → ℕ → Option Placed
place_in pl kinds.Segment i = entry pl.segments i
place_in pl kinds.Group i = option_map group_place (entry pl.groups i)
place_in pl kinds.External i = entry pl.externals i

abbrev pub place_of : Places → TargetMethod → Option Placed
place_of pl t = place_in pl t.kind t.index

-- What a frame method takes the frame of: F4 the segment of the last data record, here `location`; F5 the target.
abbrev pub framed : ℕ → TargetMethod → FrameMethod → TargetMethod
framed location target (frames.Of t) = t
framed location target frames.Location = record { kind = kinds.Segment; index = location }
framed location target frames.Target = target

-- The frame of a frame method, if that has an entry.
abbrev pub frame_by : Places → ℕ → TargetMethod → FrameMethod → Option Frame
frame_by pl location target f = option_map (λ p. p.frame) (place_of pl (framed location target f))

-- The place of an absolute segment, by its frame number and offset (TIS OMF 1.1, "SEGDEF", frame number and offset).
abbrev pub absolute_place : ℕ → ℕ → Placed
absolute_place number offset = record { address = 16 * number + offset; frame = record { base = 16 * number; selector = number } }

-- The real-mode frame of an address below 2^20 (a rule of this profile).
abbrev pub real_frame : ℕ → Option Frame
real_frame address = if nat_lt address (2 ^ 20) then Some (record { base = 16 * (address / 16); selector = address / 16 }) else None

-- The places of a group's members, if each has one.
abbrev pub members_placed : List Placed → List (At (At ℕ)) → Option (List Placed)
members_placed xs [] = Some []
members_placed xs (m ∷ ms) = option_and_then (λ p. option_map (λ ps. p ∷ ps) (members_placed xs ms)) (entry xs m.item.item)

-- The place with the lowest address, the first at a tie.
abbrev pub lowest : List Placed → Option Placed
lowest [] = None
lowest (p ∷ ps) = Some (option_map_or (λ q. if nat_le p.address q.address then p else q) (lowest ps) p)

-- The frame of a group by its members: that of its lowest member. None if the group does not exist or has no member, or a member has no place.
abbrev pub real_group : List Rec → List Placed → ℕ → Option Frame
real_group m placed_segments i = option_map (λ p. p.frame) (option_and_then lowest (option_and_then (λ g. members_placed placed_segments g.members) (entry (groups m) i)))

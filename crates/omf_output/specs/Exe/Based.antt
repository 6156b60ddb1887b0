-- What moves of the segments of a module, by its records (this profile's rule).
use Rattle.std.specs.Prelude.{◌≡◌, ℕ, List, [], ◌∷◌, length, map, Bool, true, false, ◌==◌, ◌&&◌, Option, Some, None, if◌then◌else◌}
use Rattle.omf_records.specs.Values.{Rec}
use Rattle.omf_check.specs.Module.{recs_of}
use Rattle.omf_check.specs.Tables.{segments}
use Rattle.omf_check.specs.Threads.{same}
use Rattle.omf_check.specs.Sound.{ModuleHolds}
use Rattle.omf_image.specs.Limits.{profile_limits}
use Rattle.omf_reloc.specs.Reach.{Reaches}
use Rattle.omf_output.specs.Exe.Members.{Member}
use Rattle.omf_output.specs.Exe.Moved.{AreMoversOf}

-- A segment moves unless it is absolute.
abbrev pub is_movable : Option (ℕ × ℕ) → Bool
is_movable None = true
is_movable (Some frame) = false

abbrev pub segments_moving : List Rec → List Bool
segments_moving m = map (λ s. is_movable s.absolute) (segments m)

-- The movers of a module show for each entry of its placement whether it moves, and its segments move unless they are absolute.
pub record IsBased (m : Member) : Type 0 where
  pub movers : AreMoversOf m.movers m.places
  pub segments : m.movers.segments ≡ segments_moving (recs_of m.bytes)

-- The same as a test.
abbrev pub same_flags : List Bool → List Bool → Bool
same_flags [] [] = true
same_flags [] (c ∷ cs) = false
same_flags (b ∷ bs) [] = false
same_flags (b ∷ bs) (c ∷ cs) = if same b c then same_flags bs cs else false

abbrev pub has_its_movers : Member → Bool
has_its_movers m = same_flags m.movers.segments (segments_moving (recs_of m.bytes)) && ((length m.movers.groups == length m.places.groups) && (length m.movers.externals == length m.places.externals))

-- Its placement reaches; it is well formed.
abbrev pub HasReached : Member → Type 0
HasReached m = Reaches m.places (recs_of m.bytes)

abbrev pub Holds : Member → Type 0
Holds m = ModuleHolds profile_limits (recs_of m.bytes)

-- The search for an overlap without memory (the steps of the code).
use Rattle.std.specs.Prelude.{◌≡◌, ◌⊎◌, ℕ, ◌-◌, ◌<◌, ◌^◌, List, length, Option, Some, None, IsSome, IsNone, min}
use Rattle.omf_placement.specs.Derive.{placed_modules}
use Rattle.omf_linking.specs.Segments.{all_segments, with_images}
use Rattle.omf_linking.specs.Space.Memory.{Share, overlap}
use Rattle.omf_linking.specs.Space.Segments.{SegmentAt, share_in}
use Rattle.omf_linking.specs.declared.segments.ModuleSegments.{ModuleSegments}

-- All segments of modules that have a placement and an image each.
abbrev pub AreMany : ModuleSegments → Type 0
AreMany s = (length s.modules.now < 2 ^ 32) × (length s.placements.now ≡ length s.modules.now) × (length s.relocated.now ≡ length s.modules.now)

abbrev pub listed : ModuleSegments → List SegmentAt
listed s = all_segments (with_images (placed_modules s.modules.now s.placements.now) s.relocated.now)

-- The lower of an address and the lowest so far; and the lower of two, if there are any.
abbrev pub lowest_with : Option ℕ → ℕ → ℕ
lowest_with None x = x
lowest_with (Some y) x = min y x

abbrev pub lesser : Option ℕ → Option ℕ → Option ℕ
lesser o None = o
lesser o (Some x) = Some (lowest_with o x)

-- The lowest of some addresses at which two segments overlap; or they overlap at none of these.
abbrev pub IsLowest : (ℕ → List Share) → (ℕ → Type 0) → Option ℕ → Type 0
IsLowest at begun None = (a : ℕ) → begun a → IsNone (overlap (at a))
IsLowest at begun (Some x) = IsSome (overlap (at x)) × ((a : ℕ) → a < x → begun a → IsNone (overlap (at a)))

-- A segment has a byte at an address, and none at the address before.
abbrev pub begins_in : ℕ → SegmentAt → Type 0
begins_in a s = IsSome (share_in a s) × ((a ≡ 0) ⊎ IsNone (share_in (a - 1) s))

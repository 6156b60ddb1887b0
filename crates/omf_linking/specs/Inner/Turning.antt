-- Modules laid in memory one after another (the steps of the code).
use Rattle.std.specs.Prelude.{◌≡◌, ℕ, List, [], ◌++◌, All, drop, filter_map, flat_map, map, take, Option, None, option_map, option_to_list, Ok, if◌then◌else◌}
use Rattle.std.specs.List.{AllZip, enumerate_from}
use Rattle.omf_image.specs.Overlay.{AreLaidOver}
use Rattle.omf_image.specs.Painting.{all_zeros}
use Rattle.omf_image.specs.declared.painting.Extent.{Extent}
use Rattle.omf_placement.specs.Derive.{PlacedModule}
use Rattle.omf_placement.specs.Placement.{Places}
use Rattle.omf_reloc.specs.Image.{start}
use Rattle.omf_linking.specs.Inner.Laying.{laid_pieces}
use Rattle.omf_linking.specs.Inner.Sweeping.{intervals, spot}
use Rattle.omf_linking.specs.Relocated.{IsRelocated}
use Rattle.omf_linking.specs.Segments.{image_bytes, module_segments, stored_images}
use Rattle.omf_linking.specs.Space.Memory.{Lies, pieces, shares, IsFirstOverlap}
use Rattle.omf_linking.specs.Space.Segments.{SegmentAt, IsWithin, segment_shares}
use Rattle.omf_linking.specs.Starts.{is_main, numbered_start, one_start}
use Rattle.omf_linking.specs.declared.relocated.Relocated.{Relocated}
use Rattle.omf_linking.specs.declared.space.stretch.Stretch.{Stretch}
use Rattle.omf_linking.specs.declared.space.sweep.Interval.{Interval}
use Rattle.omf_linking.specs.declared.together.Together.{Together}
use Rattle.omf_linking.specs.declared.turns.Turns.{Turns}

abbrev pub spots : List Interval → List Extent
spots is = map spot is

-- No modules yet: an image of zeros at these intervals.
pub record IsBegun (is : List Interval) (t : Turns) : Type 0 where
  pub zeros : AreLaidOver [] (all_zeros (spots is)) t.image
  pub intervals : t.intervals.items ≡ []
  pub starts : t.starts.items ≡ []

-- One more module, with this image and start: its bytes are laid over those so far.
pub record IsTurn (old : Turns) (j : ℕ) (m : PlacedModule) (r : Relocated) (new : Turns) : Type 0 where
  pub stretches : List Stretch
  pub lie : All Lies stretches
  pub within : All IsWithin (module_segments (j, (m, image_bytes r)))
  pub shared : (a : ℕ) → shares (pieces stretches) a ≡ segment_shares (module_segments (j, (m, image_bytes r))) a
  pub counted : new.intervals.items ≡ old.intervals.items ++ intervals (pieces stretches)
  pub laid : AreLaidOver old.image (laid_pieces stretches) new.image
  pub started : new.starts.items ≡ old.starts.items ++ option_to_list (numbered_start (j, (m.0, r)))

-- One more module, with the image and the start that it has at its placement, stored at another.
abbrev pub IsTaken : Turns → ℕ → PlacedModule → Places → Turns → Type 0
IsTaken old j m at new = (r : Relocated) × IsRelocated m r × IsTurn old j (m.0, at) r new

-- The segments and the starts of the modules from one on.
abbrev pub left_segments : List PlacedModule → List Places → ℕ → List SegmentAt
left_segments ms stored j = flat_map module_segments (enumerate_from j (stored_images (drop j ms) (drop j stored)))

abbrev pub own_start : PlacedModule → Option (ℕ × ℕ)
own_start m = if is_main m.0 then start m.1 m.0 else None

abbrev pub own_numbered : ℕ × PlacedModule → Option (ℕ × (ℕ × ℕ))
own_numbered m = option_map (λ s. (m.0, s)) (own_start m.1)

abbrev pub left_starts : List PlacedModule → ℕ → List (ℕ × (ℕ × ℕ))
left_starts ms j = filter_map own_numbered (enumerate_from j (drop j ms))

-- The modules before one are in memory.
pub record AreTaken (ms : List PlacedModule) (at : List Places) (is : List Interval) (j : ℕ) (t : Turns) : Type 0 where
  pub relocated : List Relocated
  pub stretches : List Stretch
  pub each : AllZip IsRelocated (take j ms) relocated
  pub lie : All Lies stretches
  pub within : All IsWithin (left_segments ms at j) → All IsWithin (left_segments ms at 0)
  pub shared : (a : ℕ) → shares (pieces stretches) a ++ segment_shares (left_segments ms at j) a ≡ segment_shares (left_segments ms at 0) a
  pub counted : t.intervals.items ≡ intervals (pieces stretches)
  pub laid : AreLaidOver [] (all_zeros (spots is) ++ laid_pieces stretches) t.image
  pub started : t.starts.items ++ left_starts ms j ≡ left_starts ms 0

-- The memory and the start of all, at these intervals.
pub record IsFinished (t : Turns) (is : List Interval) (all : Together) : Type 0 where
  pub same : t.intervals.items ≡ is
  pub apart : (ss : List Stretch) → All Lies ss → t.intervals.items ≡ intervals (pieces ss) → IsFirstOverlap (shares (pieces ss)) None
  pub memory : all.memory ≡ t.image
  pub starts : one_start t.starts.items ≡ Ok all.start

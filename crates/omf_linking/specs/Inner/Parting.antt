-- Segments and groups of all modules, as the code has them.
use Rattle.std.specs.Prelude.{ℕ, ◌≤◌, ◌^◌, List, map, filter, Bool, false, not, ◌&&◌, Some, option_and_then, is_some, IfSome, slice_get}
use Rattle.std.specs.Option.{option_map_or}
use Rattle.omf_check.specs.Tables.{entry}
use Rattle.omf_layout.specs.declared.several.portion.Portion.{Portion}
use Rattle.omf_placement.specs.declared.frame.Frame.{Frame}
use Rattle.omf_linking.specs.Inner.LineParsing.{target_seen}
use Rattle.omf_linking.specs.Locator.LinkEntries.{GroupFrame}
use Rattle.omf_linking.specs.Locator.Parts.{Gift}
use Rattle.omf_linking.specs.Locator.Sparse.{Sparse}
use Rattle.omf_linking.specs.declared.locator.parts.Gift as written
use Rattle.omf_linking.specs.declared.locator.parts.LaidParts.{LaidParts}
use Rattle.omf_linking.specs.declared.locator.span.End.{End}
use Rattle.omf_linking.specs.declared.locator.span.Site.{Site}

-- A gift of the code.
abbrev pub gift_seen : written.Gift → Gift
gift_seen g = ((g.«module», g.index), target_seen g.target)

abbrev pub parts_laid : LaidParts → List Gift × End
parts_laid l = (map gift_seen l.gifts.items, l.end)

-- What the tables of modules have for an entry, by its module and its index.
abbrev pub is_placed_in : List Sparse → ℕ → ℕ → Bool
is_placed_in ss j i = option_map_or (λ s. is_some (option_and_then (λ p. p) (entry s.segments i))) (slice_get ss j) false

abbrev pub is_framed_in : List Sparse → ℕ → ℕ → Bool
is_framed_in ss j i = option_map_or (λ s. is_some (option_and_then (λ f. f) (entry s.groups i))) (slice_get ss j) false

-- Segments that are not absolute and that have no place there; and what an `F` line gives the groups that have no frame there.
abbrev pub is_left_in : List Sparse → Portion → Bool
is_left_in ss p = not (is_some p.segment.absolute) && not (is_placed_in ss p.«module» p.index)

abbrev pub frame_gifts_in : List Sparse → Frame → List (ℕ × ℕ) → List Gift
frame_gifts_in ss f es = map (λ e. (e, GroupFrame (Some f))) (filter (λ e. not (is_framed_in ss e.0 e.1)) es)

-- Addresses that are at most 2^32.
pub record IsLowSite (s : Site) : Type 0 where
  pub start : s.start ≤ 2 ^ 32
  pub stored : IfSome s.stored (λ a. a ≤ 2 ^ 32)

pub record IsLow (e : End) : Type 0 where
  pub run : e.run ≤ 2 ^ 32
  pub stored : e.stored ≤ 2 ^ 32

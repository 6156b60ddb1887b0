-- The segments that the parts of several modules make together (TIS OMF 1.1, "SEGDEF", C field; this profile's rule).
use Rattle.std.specs.Prelude.{ℕ, ◌+◌, ◌==◌, List, ◌++◌, min, max, filter_map, flat_map, fold, slice_get, option_and_then, option_map, option_to_list, Option, Some, None, if◌then◌else◌}
use Rattle.std.specs.Ordering.{nat_cmp}
use Rattle.std.specs.declared.cmp.Ordering.{Ordering}
use Rattle.omf_check.specs.Tables.{entry}
use Rattle.omf_layout.specs.Several.Order.{combined_by, runs}
use Rattle.omf_layout.specs.Several.Portions.{name_at}
use Rattle.omf_layout.specs.declared.several.portion.Combination.{Combination}
use Rattle.omf_layout.specs.declared.several.portion.Combination.TheVariants.{Joined, Common, Alone}
use Rattle.omf_layout.specs.declared.several.portion.Portion.{Portion}
use Rattle.omf_placement.specs.Placement.{Places}
use Rattle.omf_placement.specs.declared.frame.Placed.{Placed}
use Rattle.omf_records.specs.Values.{Rec}

-- A segment with the names of its class and its own, from the address of its first byte up to the address after its last one.
pub record CombinedSegment : Type 0 where
  pub class : List ℕ
  pub name : List ℕ
  pub start : ℕ
  pub end : ℕ

-- A segment of a module at its place.
abbrev pub part : Portion → List Rec → Placed → CombinedSegment
part p m place = record { class = name_at m p.segment.class; name = name_at m p.segment.name; start = place.address; end = place.address + p.segment.length }

-- The same by the number of its module. None if it has no byte, or its module has no place for it.
abbrev pub part_in : Portion → List Rec → Places → Option CombinedSegment
part_in p m pl = option_map (part p m) (entry pl.segments p.index)

abbrev pub part_at : List (List Rec) → List Places → Portion → Option CombinedSegment
part_at ms pls p =
    if p.segment.length == 0 then None
    else option_and_then (λ m. option_and_then (part_in p m) (slice_get pls p.«module»)) (slice_get ms p.«module»)

-- Several parts are one segment: from their lowest address up to the highest end.
abbrev pub with_part : Option CombinedSegment → CombinedSegment → Option CombinedSegment
with_part None p = Some p
with_part (Some s) p = Some (record { class = s.class; name = s.name; start = min s.start p.start; end = max s.end p.end })

-- Of the segments of one class and name: those of one combination as one segment.
abbrev pub combined_in : List (List Rec) → List Places → Combination → List Portion → Option CombinedSegment
combined_in ms pls c run = fold with_part None (filter_map (part_at ms pls) (combined_by c run))

-- Of the segments of one class and name, the joined ones are one segment, as they follow one another, and the common ones are one, as they share their address. Each
-- other is one by itself: a private or an absolute one.
abbrev pub run_segments : List (List Rec) → List Places → List Portion → List CombinedSegment
run_segments ms pls run =
    option_to_list (combined_in ms pls Joined run) ++ (option_to_list (combined_in ms pls Common run) ++ filter_map (part_at ms pls) (combined_by Alone run))

-- Those of all classes and names, in the order of the layout.
abbrev pub combined_segments : List (List Rec) → List Places → List CombinedSegment
combined_segments ms pls = flat_map (run_segments ms pls) (runs ms)

-- The order of their addresses.
abbrev pub by_start : CombinedSegment → CombinedSegment → Ordering
by_start s t = nat_cmp s.start t.start

-- What the code keeps of the frames that names share.
use Rattle.std.specs.Prelude.{◌≡◌, ℕ, List, ◌∷◌, ◌++◌, filter_map, Option, option_map}
use Rattle.std.specs.BTreeMap.{BTreeMap, get_by}
use Rattle.std.specs.Cmp.Lexicographic.{slice_cmp}
use Rattle.std.specs.Global.{Vec}
use Rattle.std.specs.Ordering.{nat_cmp}
use Rattle.omf_records.specs.Values.{Rec}
use Rattle.omf_placement.specs.declared.frame.Frame.{Frame}
use Rattle.omf_linking.specs.Locator.Items.{Item, Title, first_titled, group_given, group_title, segment_framed, segment_title}
use Rattle.omf_linking.specs.declared.locator.titles.Titles.{Titles}

-- A name and a class as one text.
abbrev pub title_text : Title → List ℕ
title_text t = t.0 ++ 10 ∷ t.1

abbrev pub kept_at : BTreeMap (Vec ℕ) (Option Frame) → List ℕ → Option (Option Frame)
kept_at m text = get_by (λ k. slice_cmp nat_cmp text k.items) m

-- A table has for each title the frame of the first of these that has it.
abbrev pub IsFrameTable : (List Rec → ℕ → Title) → List (List Rec) → List ((ℕ × ℕ) × Option Frame) → BTreeMap (Vec ℕ) (Option Frame) → Type 0
IsFrameTable title ms gs m = (t : Title) → kept_at m (title_text t) ≡ option_map (λ g. g.1) (first_titled title ms t gs)

pub record AreTitles (ms : List (List Rec)) (s : Titles) (items : List Item) : Type 0 where
  pub segments_are : IsFrameTable segment_title ms (filter_map segment_framed items) s.segments.by_title
  pub groups_are : IsFrameTable group_title ms (filter_map group_given items) s.groups.by_title

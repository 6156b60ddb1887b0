-- Which lines of a draft share a frame, computed line by line.
use Rattle.std.specs.Prelude.{ℕ, List, [], ◌∷◌, ◌++◌, Bool, Option}
use Rattle.omf_records.specs.Values.{Rec}
use Rattle.omf_placement.specs.declared.frame.Frame.{Frame}
use Rattle.omf_linking.specs.Locator.Drafted.{Shared, is_same_part}
use Rattle.omf_linking.specs.Locator.Items.{Title, in_quotes, shared_frame}
use Rattle.omf_linking.specs.declared.locator.shares.Shares.{Shares}

-- Of each of these lines of a module, whether it has the frame of the first line before it of its name, after the lines gs.
abbrev pub shared_after : (List Rec → ℕ → Title) → List (List Rec) → List ((ℕ × ℕ) × Option Frame) → List Rec → List ((ℕ × ℕ) × Option Frame) → List Bool
shared_after title ms gs m [] = []
shared_after title ms gs m (x ∷ xs) = is_same_part (shared_frame title ms (in_quotes (title m x.0.1)) gs) x.1 ∷ shared_after title ms (gs ++ x ∷ []) m xs

-- What the code returns for a module.
abbrev pub shares_seen : Shares → Shared
shares_seen s = (s.segments.items, s.groups.items)

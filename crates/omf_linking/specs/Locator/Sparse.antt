-- What a locator's text gives each module, entry by entry (this profile's rule).
use Rattle.std.specs.Prelude.{◌≡◌, ⊤, ℕ, List, [], ◌∷◌, length, map, filter_map, Option, Result, Ok, Err}
use Rattle.std.specs.List.{enumerate_from}
use Rattle.omf_records.specs.Values.{Rec}
use Rattle.omf_records.specs.Inner.Seen.{map_ok}
use Rattle.omf_check.specs.Tables.{segments, groups, externals}
use Rattle.omf_placement.specs.declared.frame.Frame.{Frame}
use Rattle.omf_placement.specs.declared.frame.Placed.{Placed}
use Rattle.omf_linking.specs.Locator.Items.{Item, segment_place, stored_address, group_frame, external_place, items_after}
use Rattle.omf_linking.specs.Locator.Keys.{count_from}
use Rattle.omf_linking.specs.Locator.LinkEntries.{bad_line, link_lines}
use Rattle.omf_linking.specs.declared.locator.fault.LineFault.TheVariants as why
use Rattle.omf_linking.specs.declared.locator.fault.LocatorFault.{LocatorFault}
use Rattle.omf_linking.specs.declared.locator.fault.LocatorFault.TheVariants as fault

-- For each entry of a module's tables, in index order: its place or its frame, if a line gives it one. A group's frame may be that of its lowest member. For each
-- segment also the address at which it is stored, if a line gives it one.
pub record Sparse : Type 0 where
  pub segments : List (Option Placed)
  pub stored : List (Option ℕ)
  pub groups : List (Option (Option Frame))
  pub externals : List (Option Placed)

abbrev pub sparse_of : List Item → ℕ × List Rec → Sparse
sparse_of items m = record {
  segments = map (segment_place items m.0) (count_from 1 (length (segments m.1)));
  stored = map (stored_address items m.0) (count_from 1 (length (segments m.1)));
  groups = map (group_frame items m.0) (count_from 1 (length (groups m.1)));
  externals = map (external_place items m.0) (count_from 1 (length (externals m.1)));
}

abbrev pub sparse_all : List (List Rec) → List Item → List Sparse
sparse_all ms items = map (sparse_of items) (enumerate_from 0 ms)

-- The first line that is no entry comes before all other faults.
abbrev pub unless_bad : {A : Type 0} → List ℕ → Result A LocatorFault → Result A LocatorFault
unless_bad [] r = r
unless_bad (n ∷ ns) r = Err (fault.Line n why.NotUnderstood)

abbrev pub bad_lines : List ℕ → List ℕ
bad_lines text = filter_map bad_line (link_lines text)

-- What a text gives modules, or the first line at fault.
abbrev pub sparse : List (List Rec) → List ℕ → Result (List Sparse) LocatorFault
sparse ms text = unless_bad (bad_lines text) (map_ok (sparse_all ms) (items_after ms [] (link_lines text)))

-- A result is exactly the defined value or fault. Memory may run out.
abbrev pub IsOutcome : {A : Type 0} → Result A LocatorFault → Result A LocatorFault → Type 0
IsOutcome r (Ok a) = r ≡ Ok a
IsOutcome r (Err fault.Memory) = ⊤
IsOutcome r (Err (fault.Line n w)) = r ≡ Err (fault.Line n w)

-- The map of several modules at the addresses that a link text gives them, or why there is none (a rule of this profile).
use Rattle.std.specs.Prelude.{◌≡◌, ⊤, ℕ, List, ◌++◌, Result, Ok, Err}
use Rattle.omf_records.specs.Values.{Rec}
use Rattle.omf_linking.specs.Locator.Sparse.{Sparse, sparse}
use Rattle.omf_linking.specs.declared.fault.LinkFault.{LinkFault}
use Rattle.omf_linking.specs.declared.fault.LinkFault.TheVariants as link
use Rattle.omf_linking.specs.declared.locator.fault.LocatorFault.TheVariants as locator
use Rattle.omf_externals.specs.Unresolved.{unresolved_text}
use Rattle.omf_map.specs.Addresses.{addressed_by}
use Rattle.omf_map.specs.MapText.{map_text}

-- A line of the text is at fault. Out of memory is possible at any time.
abbrev pub IsUnread : List (List Rec) → List ℕ → LinkFault → Type 0
IsUnread ms text (link.Line n why) = sparse ms text ≡ Err (locator.Line n why)
IsUnread ms text link.Memory = ⊤
IsUnread ms text _ = ⊥

-- The result for modules with these labels and a link text: the map by what the text gives, and a line for each name that an external asks for and no public or more
-- than one has; or the first line at fault.
abbrev pub IsMapped : List (List ℕ) → List (List Rec) → List ℕ → Result (List ℕ) LinkFault → Type 0
IsMapped labels ms text (Ok shown) = (ss : List Sparse) × (sparse ms text ≡ Ok ss) × (shown ≡ map_text (addressed_by ms ss) ++ unresolved_text labels ms ss)
IsMapped labels ms text (Err f) = IsUnread ms text f

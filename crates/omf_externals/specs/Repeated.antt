-- The names that more than one public has, as text (a rule of this profile).
use Rattle.std.specs.Prelude.{◌≡◌, ℕ, List, [], flat_map, length, nat_le, codes, if◌then◌else◌}
use Rattle.std.specs.Cmp.Lexicographic.{slice_cmp}
use Rattle.std.specs.List.Sorted.{IsStrictlySortedBy}
use Rattle.std.specs.Ordering.{nat_cmp}
use Rattle.omf_externals.specs.Names.{has_name}
use Rattle.omf_externals.specs.Unresolved.{Row, name_line, spots_of}
use Rattle.omf_externals.specs.declared.by_name.Spot.{Spot}

-- The line of a name with these publics, if they are more than one: their modules.
abbrev pub repeated_line : List (List ℕ) → List ℕ → List Spot → List ℕ
repeated_line labels name ss = if nat_le 2 (length ss) then name_line labels (codes "twice") name ss else []

-- The names that more than one of these publics has, in ascending order.
pub record AreRepeated (rows : List Row) (names : List (List ℕ)) : Type 0 where
  pub ascending : IsStrictlySortedBy (slice_cmp nat_cmp) names
  pub each : (name : List ℕ) → has_name names name ≡ nat_le 2 (length (spots_of rows name))

-- A line for each name that more than one of these publics has, in ascending order of the names.
abbrev pub IsRepeatedText : List (List ℕ) → List Row → List ℕ → Type 0
IsRepeatedText labels rows text = (names : List (List ℕ)) × AreRepeated rows names × (text ≡ flat_map (λ n. name_line labels (codes "twice") n (spots_of rows n)) names)

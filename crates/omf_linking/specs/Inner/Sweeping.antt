-- A sweep over intervals in rising order (the steps of the code).
use Rattle.std.specs.Prelude.{ℕ, List, [], ◌∷◌, map, length, ◌+◌, ◌-◌, max, nat_lt, Option, Some, None, if◌then◌else◌}
use Rattle.omf_image.specs.declared.painting.Extent.{Extent}
use Rattle.omf_linking.specs.Space.Memory.{Piece}
use Rattle.omf_linking.specs.declared.space.sweep.Interval.{Interval}

abbrev pub interval : Piece → Interval
interval p = record { common = p.common; first = p.address; end = p.address + length p.bytes }

abbrev pub intervals : List Piece → List Interval
intervals ps = map interval ps

-- An interval of addresses as an extent of segment 0.
abbrev pub spot : Interval → Extent
spot i = record { segment = 0; first = i.first; len = i.end - i.first }

-- The address up to which an interval may not begin, and the ends with one more interval: of those that are not common, and of all.
abbrev pub taken : ℕ → ℕ → Interval → ℕ
taken own all i = if i.common then own else all

abbrev pub own_with : ℕ → Interval → ℕ
own_with own i = if i.common then own else max own i.end

-- The first of intervals in rising order that overlaps an earlier one that it may not.
abbrev pub swept : ℕ → ℕ → List Interval → Option ℕ
swept own all [] = None
swept own all (i ∷ is) = if nat_lt i.first (taken own all i) then Some i.first else swept (own_with own i) (max all i.end) is

-- The two orders in which a map lists publics, as LINK's does (this profile's rule).
use Rattle.std.specs.Ordering.{nat_cmp, ordering_then}
use Rattle.std.specs.Cmp.Lexicographic.{slice_cmp}
use Rattle.std.specs.declared.cmp.Ordering.{Ordering}
use Rattle.omf_placement.specs.Derive.{PlacedPublic}

-- By name: the first byte that differs decides.
abbrev pub by_name : PlacedPublic → PlacedPublic → Ordering
by_name p q = slice_cmp nat_cmp p.name q.name

-- By value: by address, and publics of one address by name.
abbrev pub by_value : PlacedPublic → PlacedPublic → Ordering
by_value p q = ordering_then (nat_cmp p.place.address q.place.address) (by_name p q)

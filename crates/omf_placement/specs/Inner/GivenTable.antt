-- A table of given places by module and external: it holds the first of each.
use Rattle.std.specs.Prelude.{◌≡◌, ℕ, List}
use Rattle.std.specs.BTreeMap.{BTreeMap, get}
use Rattle.std.specs.Ordering.{nat_cmp, ordering_then}
use Rattle.omf_placement.specs.declared.several.given.Given.{Given}
use Rattle.omf_placement.specs.Inner.Derived.{given_place}
use Rattle.omf_placement.specs.declared.frame.Placed.{Placed}

abbrev pub IsGivenTable : BTreeMap (ℕ × ℕ) Placed → List Given → Type 0
IsGivenTable m given = (j i : ℕ) → get (λ x y. ordering_then (nat_cmp x.0 y.0) (nat_cmp x.1 y.1)) m (j, i) ≡ given_place given j i

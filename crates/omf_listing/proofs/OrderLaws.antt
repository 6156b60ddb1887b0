-- The orders of a map's lists are orders.
use Rattle.std.specs.Cmp.{IsStrictWeakOrder, nat_cmp_total}
use Rattle.std.specs.Cmp.Lexicographic.{nat_list_cmp_total}
use Rattle.std.specs.Ordering.{is_lt}
use Rattle.std.proofs.lemmas.Cmp.{on_total, then_total}
use Rattle.std.proofs.lemmas.List.Sorted.{ranks_by}
use Rattle.omf_placement.specs.Derive.{PlacedPublic}
use Rattle.omf_listing.specs.Combined.{CombinedSegment, by_start}
use Rattle.omf_listing.specs.Publics.{by_name, by_value}

pub name-order : IsStrictWeakOrder (λ p q. is_lt (by_name p q))
name-order = ranks_by nat_list_cmp_total (λ (p : PlacedPublic). p.name)

pub value-order : IsStrictWeakOrder (λ p q. is_lt (by_value p q))
value-order = ranks_by (then_total (on_total (λ (p : PlacedPublic). p.place.address) nat_cmp_total) (on_total (λ (p : PlacedPublic). p.name) nat_list_cmp_total)) (λ (p : PlacedPublic). p)

pub start-order : IsStrictWeakOrder (λ s t. is_lt (by_start s t))
start-order = ranks_by nat_cmp_total (λ (s : CombinedSegment). s.start)

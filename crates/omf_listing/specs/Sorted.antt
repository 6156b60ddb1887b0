-- Values in an order.
use Rattle.std.specs.Prelude.{List, IsPermutation, IsSorted}
use Rattle.std.specs.List.Sorted.{IsStable}
use Rattle.std.specs.declared.cmp.Ordering.{Ordering}

-- The same values in ascending order. Values that are equal in this order are in the order in which they were.
pub record AreSorted {A : Type 0} (cmp : A → A → Ordering) (xs ys : List A) : Type 0 where
  pub same : IsPermutation xs ys
  pub ascending : IsSorted cmp ys
  pub stable : IsStable cmp xs ys

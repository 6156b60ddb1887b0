use Rattle.std.proofs.Common.{◌≡◌, ap, rules, subst}
use Rattle.std.specs.Ordering.{is_lt}
use Rattle.std.proofs.lemmas.List.Sorted.{answers_always}
use Rattle.omf_listing.specs.Publics.{by_value}
use Rattle.omf_listing.specs.Sorted.{AreSorted}
use Rattle.omf_listing.proofs.OrderLaws.{value-order}
use Rattle.omf_listing.proofs.public.publics_by_value.Goals as goal

pub returns : goal.returns
returns c =
    subst (λ xs. AreSorted by_value xs c.sort_by.new.self.items) c.in_ok-publics.ensures (record {
      same = c.sort_by.ensures.permutation;
      ascending = c.in_ok-sort_by.ensures.sorted (λ p q. is_lt (by_value p q)) value-order (answers_always _ _ _ (λ f a r g h. let e : r ≡ by_value a.0.now a.1.0.now = search rules in ap is_lt e));
      stable = c.sort_by.ensures.stable (λ p q. is_lt (by_value p q)) value-order (answers_always _ _ _ (λ f a r g h. let e : r ≡ by_value a.0.now a.1.0.now = search rules in ap is_lt e));
    })

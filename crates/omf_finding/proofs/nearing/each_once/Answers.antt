use Rattle.std.proofs.Common.{◌==◌, List, ℕ, sym, subst}
use Rattle.std.specs.Prelude.{Contains}
use Rattle.std.proofs.lemmas.List.Filters.{dedup_is}
use Rattle.std.proofs.lemmas.List.Kept.{Contains-dedup_nat}
use Rattle.std.proofs.lemmas.List.Sorted.{Contains-permutation}
use Rattle.omf_finding.proofs.nearing.each_once.Goals as goal

pub returns : goal.returns
returns c =
    let sorted = c.sort_unstable.new.self.items in
    λ a h.
    subst (λ (xs : List ℕ). Contains xs a) (sym (dedup_is (λ (x y : ℕ). x == y) sorted c.dedup.new.self.items c.dedup.ensures.filtered))
    (Contains-dedup_nat sorted a (Contains-permutation c.args.addresses.items sorted a c.sort_unstable.ensures.permutation h))

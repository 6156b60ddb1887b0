use Rattle.std.proofs.Common.{rules, ◌≡◌, ◌*◌, ◌^◌, ◌<◌, ◌≤◌, ℕ, List, nat_lt, length, arith, subst, sym}
use Rattle.std.specs.Prelude.{get_or}
use Rattle.std.specs.List.Sorted.{IsNonDecreasing}
use Rattle.std.proofs.lemmas.Bool.{ltb-true, ltb-false}
use Rattle.std.proofs.lemmas.List.Sorted.{IsPartitionPoint-from_clause, IsPartitionedBy-ltb}
use Rattle.omf_finding.proofs.windows.Windows.first.Goals as goal

pub returns-clause-before : goal.returns-clause-before
returns-clause-before c =
    let xs = c.deref.result.now in
    let same : xs ≡ c.args.self.now.sorted.items = c.deref.ensures.value in
    let t = c.from.result * 2 ^ 32 in
    let key : c.from.result ≡ c.args.key = c.from.ensures in
    let p = IsPartitionPoint-from_clause (λ y. nat_lt y t) xs c.partition_point.result c.partition_point.ensures.partitioned
    (IsPartitionedBy-ltb (λ n. n) xs t (subst IsNonDecreasing (sym same) c.requires)) (λ a r f' h. search rules) in
    λ k d low.
    let less = ltb-true (get_or xs k d) t (p.0 k d (omega arith) low) in
    subst (λ (ys : List ℕ). get_or ys k d < c.args.key * 2 ^ 32) same (omega (arith, less, key))

pub returns-clause-after : goal.returns-clause-after
returns-clause-after c =
    let xs = c.deref.result.now in
    let same : xs ≡ c.args.self.now.sorted.items = c.deref.ensures.value in
    let t = c.from.result * 2 ^ 32 in
    let key : c.from.result ≡ c.args.key = c.from.ensures in
    let p = IsPartitionPoint-from_clause (λ y. nat_lt y t) xs c.partition_point.result c.partition_point.ensures.partitioned
    (IsPartitionedBy-ltb (λ n. n) xs t (subst IsNonDecreasing (sym same) c.requires)) (λ a r f' h. search rules) in
    λ k d from low.
    let least = ltb-false (get_or xs k d) t (p.1 k d from (subst (λ (ys : List ℕ). k < length ys) (sym same) low)) in
    subst (λ (ys : List ℕ). c.args.key * 2 ^ 32 ≤ get_or ys k d) same (omega (arith, least, key))

use Rattle.std.proofs.Common.{rules, nat_le}
use Rattle.std.proofs.lemmas.List.Sorted.{IsPartitionPoint-from_clause, IsPartitionedBy-leb}
use Rattle.omf_image.proofs.SortedLaws.{begins, begins_rise, begin_by, begin_after}
use Rattle.omf_image.proofs.image.beginning_by.Goals as goal

pub returns-clause-before : goal.returns-clause-before
returns-clause-before c =
    let p = IsPartitionPoint-from_clause (λ y. nat_le (begins y) c.args.at) c.args.runs.now c.partition_point.result c.partition_point.ensures.partitioned
    (IsPartitionedBy-leb begins c.args.runs.now c.args.at (begins_rise 0 c.args.runs.now c.requires)) (λ a r f' h. search rules) in
    begin_by c.args.at c.partition_point.result c.args.runs.now (λ k d lt. p.0 k d (search rules) lt)

pub returns-clause-others : goal.returns-clause-others
returns-clause-others c =
    let p = IsPartitionPoint-from_clause (λ y. nat_le (begins y) c.args.at) c.args.runs.now c.partition_point.result c.partition_point.ensures.partitioned
    (IsPartitionedBy-leb begins c.args.runs.now c.args.at (begins_rise 0 c.args.runs.now c.requires)) (λ a r f' h. search rules) in
    begin_after c.args.at c.partition_point.result c.args.runs.now (λ k d le lt. p.1 k d le lt)

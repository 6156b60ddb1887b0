use Rattle.std.proofs.Common.{rules, nat_lt}
use Rattle.std.proofs.lemmas.List.Sorted.{IsPartitionPoint-from_clause, IsPartitionedBy-ltb}
use Rattle.omf_image.proofs.SortedLaws.{ends, ends_rise, end_before, end_from}
use Rattle.omf_image.proofs.image.ending_before.Goals as goal

pub returns-clause-before : goal.returns-clause-before
returns-clause-before c =
    let p = IsPartitionPoint-from_clause (λ y. nat_lt (ends y) c.args.at) c.args.runs.now c.partition_point.result c.partition_point.ensures.partitioned
    (IsPartitionedBy-ltb ends c.args.runs.now c.args.at (ends_rise 0 c.args.runs.now c.requires)) (λ a r f' h. search rules) in
    end_before c.args.at c.partition_point.result c.args.runs.now (λ k d lt. p.0 k d (search rules) lt)

pub returns-clause-others : goal.returns-clause-others
returns-clause-others c =
    let p = IsPartitionPoint-from_clause (λ y. nat_lt (ends y) c.args.at) c.args.runs.now c.partition_point.result c.partition_point.ensures.partitioned
    (IsPartitionedBy-ltb ends c.args.runs.now c.args.at (ends_rise 0 c.args.runs.now c.requires)) (λ a r f' h. search rules) in
    end_from c.args.at c.partition_point.result c.args.runs.now (λ k d le lt. p.1 k d le lt)

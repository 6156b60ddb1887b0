use Rattle.std.proofs.Common.{◌∙◌, ◌++◌, ap}
use Rattle.std.specs.Prelude.{map}
use Rattle.omf_virtual.specs.Inner.Counts.{count_of}
use Rattle.omf_virtual.specs.Virtual.{table}
use Rattle.omf_virtual.proofs.OriginLaws.{all_counts}
use Rattle.omf_virtual.proofs.origin.counts_of.Goals as goal

pub returns : goal.returns
returns c =
    let rs = c.args.records.now in
    let first = c.in_ok-push_counts.ensures ∙ ap (λ xs. c.new-counts.result.items ++ map count_of xs) c.split_at.ensures.front in
    let last = c.in_ok-push_counts-2.ensures ∙ ap (λ xs. c.push.new.self.items ++ map count_of xs) c.split_at.ensures.back in
    all_counts (table rs) c.args.front _ rs _ _ _ _ c.new-counts.ensures.items first c.in_ok-added.ensures c.in_ok-push.ensures.items last

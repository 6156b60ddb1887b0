use Rattle.std.proofs.Common.{◌++◌, ◌∙◌, ap}
use Rattle.std.specs.Prelude.{flat_map}
use Rattle.omf_check.specs.Module.{records_in}
use Rattle.omf_placement.specs.Weak.{pairs_in}
use Rattle.omf_placement.proofs.WeakLaws.{listed_pairs}
use Rattle.omf_placement.proofs.several.pairs.weak_pairs.Goals as goal

pub loop-rec-init : goal.loop-rec-init
loop-rec-init c =
    ap (λ xs. xs ++ flat_map (λ x. pairs_in x.1.contents) c.into_iter-rec-iterator.result) c.new-pairs.ensures.items
    ∙ ap (flat_map (λ x. pairs_in x.1.contents)) (c.into_iter-rec-iterator.ensures.into_iter_gives ∙ c.undecoded-rec-items.ensures.listed) ∙ listed_pairs 0 0 (records_in c.args.«module».now.bytes)

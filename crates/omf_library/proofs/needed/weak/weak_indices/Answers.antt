use Rattle.std.proofs.Common.{◌++◌, ◌∙◌, ap}
use Rattle.std.specs.Prelude.{flat_map}
use Rattle.omf_check.specs.Module.{records_in}
use Rattle.omf_library.specs.Needed.{weak_in}
use Rattle.omf_library.proofs.ListedNames.{listed-all}
use Rattle.omf_library.proofs.needed.weak.weak_indices.Goals as goal

pub loop-rec-init : goal.loop-rec-init
loop-rec-init c =
    ap (λ xs. xs ++ flat_map (λ x. weak_in x.1.contents) c.into_iter-rec-iterator.result) c.new-weak.ensures.items
    ∙ ap (flat_map (λ x. weak_in x.1.contents)) (c.into_iter-rec-iterator.ensures.into_iter_gives ∙ c.undecoded-rec-items.ensures.listed)
    ∙ listed-all (λ r. weak_in r.contents) 0 0 (records_in c.args.«module».now.bytes)

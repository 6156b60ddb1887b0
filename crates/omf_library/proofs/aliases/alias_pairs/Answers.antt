use Rattle.std.proofs.Common.{◌++◌, ◌∙◌, ap}
use Rattle.std.specs.Prelude.{flat_map}
use Rattle.omf_check.specs.Module.{records_in}
use Rattle.omf_library.specs.Aliases.{pairs_of}
use Rattle.omf_library.proofs.ListedNames.{listed-all}
use Rattle.omf_library.proofs.aliases.alias_pairs.Goals as goal

pub loop-rec-init : goal.loop-rec-init
loop-rec-init c =
    ap (λ xs. xs ++ flat_map (λ x. pairs_of x.1.kind x.1.contents) c.into_iter-rec-iterator.result) c.new-pairs.ensures.items
    ∙ ap (flat_map (λ x. pairs_of x.1.kind x.1.contents)) (c.into_iter-rec-iterator.ensures.into_iter_gives ∙ c.undecoded-rec-items.ensures.listed)
    ∙ listed-all (λ r. pairs_of r.kind r.contents) 0 0 (records_in c.args.«module».now.bytes)

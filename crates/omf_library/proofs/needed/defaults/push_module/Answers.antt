use Rattle.std.proofs.Common.{◌++◌, ◌∙◌, ap}
use Rattle.std.specs.Prelude.{flat_map}
use Rattle.omf_check.specs.Module.{records_in}
use Rattle.omf_library.specs.Defaults.{asked_in}
use Rattle.omf_library.specs.Inner.Names.{names_seen}
use Rattle.omf_library.proofs.ListedNames.{listed-all}
use Rattle.omf_library.proofs.needed.defaults.push_module.Goals as goal

pub loop-rec-init : goal.loop-rec-init
loop-rec-init c =
    ap (λ xs. names_seen c.args.names.now.items ++ xs)
    (ap (flat_map (λ x. asked_in x.1.contents)) (c.into_iter-rec-iterator.ensures.into_iter_gives ∙ c.undecoded-rec-items.ensures.listed)
    ∙ listed-all (λ r. asked_in r.contents) 0 0 (records_in c.args.«module».now.bytes))

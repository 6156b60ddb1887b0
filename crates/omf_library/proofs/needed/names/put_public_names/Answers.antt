use Rattle.std.proofs.Common.{◌++◌, ◌∙◌, ap}
use Rattle.std.specs.Prelude.{flat_map}
use Rattle.omf_check.specs.Module.{records_in}
use Rattle.omf_library.specs.Needed.{public_names_of}
use Rattle.omf_library.specs.Inner.Names.{names_seen}
use Rattle.omf_library.proofs.ListedNames.{listed-all}
use Rattle.omf_library.proofs.needed.names.put_public_names.Goals as goal

pub loop-rec-init : goal.loop-rec-init
loop-rec-init c =
    ap (λ ns. names_seen ns ++ flat_map (λ x. public_names_of x.1.kind x.1.contents) c.into_iter-rec-iterator.result) c.clear.ensures.items
    ∙ ap (flat_map (λ x. public_names_of x.1.kind x.1.contents)) (c.into_iter-rec-iterator.ensures.into_iter_gives ∙ c.undecoded-rec-items.ensures.listed)
    ∙ listed-all (λ r. public_names_of r.kind r.contents) 0 0 (records_in c.args.«module».now.bytes)

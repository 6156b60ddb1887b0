use Rattle.std.proofs.Common.{◌++◌, ◌∙◌, ap}
use Rattle.std.specs.Prelude.{flat_map}
use Rattle.omf_check.specs.Module.{records_in}
use Rattle.omf_dump.specs.Names.{weak_in}
use Rattle.omf_dump.proofs.NamingLaws.{listed}
use Rattle.omf_dump.proofs.facts.weak_externals.Goals as goal

pub loop-rec-init : goal.loop-rec-init
loop-rec-init c =
    ap (λ xs. xs ++ flat_map (λ x. weak_in c.args.class x.1.contents) c.into_iter-rec-iterator.result) c.new-externals.ensures.items
    ∙ ap (flat_map (λ x. weak_in c.args.class x.1.contents)) (c.into_iter-rec-iterator.ensures.into_iter_gives ∙ c.undecoded-rec-items.ensures.listed) ∙ listed (weak_in c.args.class) 0 0 (records_in c.args.«module».now.bytes)

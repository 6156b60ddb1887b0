use Rattle.std.proofs.Common.{◌≡◌, ◌++◌, ◌∙◌, [], ap, rules}
use Rattle.std.specs.Prelude.{flat_map}
use Rattle.omf_check.specs.Module.{records_in}
use Rattle.omf_trimming.specs.Choice.{data_by}
use Rattle.omf_trimming.proofs.ChoiceLaws.{listed-all}
use Rattle.omf_trimming.proofs.choice.parts.data_of.Goals as goal

pub loop-record-init : goal.loop-record-init
loop-record-init c =
    let none : c.new-parts.result.items ≡ [] = search rules in
    ap (λ ps. ps ++ flat_map (λ x. data_by c.args.segment x.1.kind x.1.contents) c.into_iter-record-iterator.result) none
    ∙ ap (flat_map (λ x. data_by c.args.segment x.1.kind x.1.contents)) (c.into_iter-record-iterator.ensures.into_iter_gives ∙ c.undecoded-record-items.ensures.listed)
    ∙ listed-all (λ r. data_by c.args.segment r.kind r.contents) 0 0 (records_in c.args.«module».now.bytes)

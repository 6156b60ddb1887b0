use Rattle.std.proofs.Common.{◌≡◌, ◌++◌, ◌∙◌, [], ap, sym, append-nil, rules}
use Rattle.std.specs.Prelude.{flat_map}
use Rattle.omf_trimming.specs.Inner.Rest.{thread_bytes}
use Rattle.omf_trimming.proofs.ChoiceLaws.{threads-flat}
use Rattle.omf_trimming.proofs.without.rest.threads_of.Goals as goal

pub returns : goal.returns
returns c =
    let left : c.loop-subrecord.subrecord-iterator ≡ [] = search rules in
    sym (append-nil c.loop-subrecord.body.items)
    ∙ ap (λ ss. c.loop-subrecord.body.items ++ flat_map (λ s. thread_bytes c.args.kind s.item) ss) (sym left)
    ∙ c.loop-subrecord.invariant ∙ threads-flat c.args.kind c.args.subrecords

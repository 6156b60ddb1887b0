use Rattle.std.proofs.Common.{◌++◌, ◌∙◌, ◌∷◌, [], ap}
use Rattle.omf_externals.specs.Unresolved.{items_or}
use Rattle.omf_externals.proofs.UnresolvedLaws.{table-more}
use Rattle.omf_externals.proofs.by_name.ByName.add.Goals as goal

pub returns : goal.returns
returns c =
    table-more c.args.self.now.spots c.remove.new.self c.insert.new.self c.args.name.now c.args.spot c.push.new.self c.remove.ensures.updates c.in_ok-insert.ensures.updates
    (c.in_ok-push.ensures.items ∙ ap (λ ss. ss ++ c.args.spot ∷ []) (c.spots_or_none-spots.ensures ∙ ap items_or c.remove.ensures.value))

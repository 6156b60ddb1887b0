use Rattle.std.proofs.Common.{◌∷◌, ◌++◌, [], ap, ◌∙◌}
use Rattle.omf_layout.proofs.SeveralLaws.GatherLaws.{run-changed}
use Rattle.omf_layout.proofs.several.gathering.add_at.Goals as goal

pub returns : goal.returns
returns g c = run-changed c.args.runs.now.items c.args.place c.index_mut.result.now c.push.new.self c.args.value c.requires (c.in_ok-push.ensures.items ∙ ap (λ r. r.items ++ c.args.value ∷ []) c.index_mut.ensures.value)

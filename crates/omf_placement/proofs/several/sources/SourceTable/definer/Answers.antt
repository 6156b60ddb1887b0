use Rattle.std.proofs.Common.{ap, ◌∙◌}
use Rattle.std.specs.BTreeMap.{get_by}
use Rattle.omf_names.specs.Names.{name_cmp}
use Rattle.omf_placement.proofs.several.sources.SourceTable.definer.Goals as goal

pub returns : goal.returns
returns c among h = c.copied.ensures ∙ c.get.ensures.value ∙ ap (λ b. get_by (λ k. name_cmp b.now k.now) c.args.self.now.by_name) c.of.ensures ∙ h.found c.args.name.now

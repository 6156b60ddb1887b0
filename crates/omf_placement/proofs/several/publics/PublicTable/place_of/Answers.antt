use Rattle.std.proofs.Common.{ap, ◌∙◌}
use Rattle.std.specs.BTreeMap.{get_by}
use Rattle.std.specs.Prelude.{filter_map}
use Rattle.omf_names.specs.Names.{name_cmp}
use Rattle.omf_placement.specs.Inner.Derived.{of_name}
use Rattle.omf_placement.proofs.several.publics.PublicTable.place_of.Goals as goal

pub returns : goal.returns
returns c among h =
    c.place_found.ensures (filter_map (of_name c.args.name.now) among)
    (c.copied.ensures ∙ c.get.ensures.value ∙ ap (λ b. get_by (λ k. name_cmp b.now k.now) c.args.self.now.by_name) c.of.ensures ∙ h c.args.name.now)

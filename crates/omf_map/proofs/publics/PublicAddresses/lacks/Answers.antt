use Rattle.std.proofs.Common.{◌∙◌, ap}
use Rattle.std.specs.Prelude.{filter_map, is_some, not}
use Rattle.omf_names.proofs.NameTables.{is_there}
use Rattle.omf_map.specs.Addresses.{of_name}
use Rattle.omf_map.proofs.PublicLaws.{lacking}
use Rattle.omf_map.proofs.publics.PublicAddresses.lacks.Goals as goal

pub returns : goal.returns
returns c among h =
    let m = c.args.self.now.by_name in
    ap not (is_there c.args.name c.of.result c.of.ensures m c.contains_key.result c.contains_key.ensures) ∙ ap (λ o. not (is_some o)) (h c.args.name.now)
    ∙ lacking (filter_map (of_name c.args.name.now) among)

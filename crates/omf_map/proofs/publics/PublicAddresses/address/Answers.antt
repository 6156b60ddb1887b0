use Rattle.std.proofs.Common.{◌∙◌, sym}
use Rattle.std.specs.Prelude.{filter_map}
use Rattle.omf_names.proofs.NameTables.{was_at}
use Rattle.omf_map.specs.Addresses.{of_name}
use Rattle.omf_map.proofs.PublicLaws.{the_one-summed}
use Rattle.omf_map.proofs.publics.PublicAddresses.address.Goals as goal

pub returns : goal.returns
returns c among h =
    let m = c.args.self.now.by_name in
    sym (the_one-summed (filter_map (of_name c.args.name.now) among) c.in_ok-copied.field-0
    (sym (h c.args.name.now) ∙ sym (was_at c.args.name c.of.result c.of.ensures m c.copied.result (c.copied.ensures ∙ c.get.ensures.value)) ∙ c.in_ok-copied.was))

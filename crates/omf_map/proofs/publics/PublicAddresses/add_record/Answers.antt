use Rattle.std.proofs.Common.{◌∙◌, ap, sym, subst}
use Rattle.std.specs.Prelude.{OnOk}
use Rattle.omf_map.specs.Inner.PublicAddresses.{HasMore, based}
use Rattle.omf_map.proofs.publics.PublicAddresses.add_record.Goals as goal

pub returns-in-Some : goal.returns-in-Some
returns-in-Some c =
    subst (λ xs. OnOk c.add_items.result (HasMore c.args.self.now.by_name c.add_items.new.self.by_name xs))
    (sym (ap based c.in-Some.is) ∙ c.publics_in.ensures) c.add_items.ensures

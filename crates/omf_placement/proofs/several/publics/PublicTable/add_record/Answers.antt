use Rattle.std.proofs.Common.{◌∙◌, ap, sym, subst}
use Rattle.std.specs.Prelude.{OnOk}
use Rattle.omf_placement.specs.Inner.PublicTable.{HasMore, based}
use Rattle.omf_placement.proofs.several.publics.PublicTable.add_record.Goals as goal

pub returns-in-Some : goal.returns-in-Some
returns-in-Some c =
    subst (λ xs. OnOk c.add_items.result (HasMore c.args.self.now.by_name c.add_items.new.self.by_name xs))
    (sym (ap based c.in-Some.is) ∙ c.publics_of.ensures) c.add_items.ensures

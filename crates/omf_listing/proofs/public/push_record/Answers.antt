use Rattle.std.proofs.Common.{◌≡◌, ◌++◌, ◌∙◌, ap, sym, subst}
use Rattle.std.specs.Prelude.{OnOk}
use Rattle.omf_placement.specs.Inner.PublicTable.{based}
use Rattle.omf_listing.proofs.public.push_record.Goals as goal

pub returns-in-Some : goal.returns-in-Some
returns-in-Some c =
    subst (λ xs. OnOk c.push_items.result (c.push_items.new.all.items ≡ c.args.all.now.items ++ xs)) (sym (ap based c.in-Some.is) ∙ c.publics_of.ensures)
    c.push_items.ensures

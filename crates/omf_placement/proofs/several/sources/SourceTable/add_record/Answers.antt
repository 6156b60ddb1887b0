use Rattle.std.proofs.Common.{◌∙◌, ap, sym, subst}
use Rattle.std.specs.Prelude.{OnOk}
use Rattle.omf_placement.specs.Inner.Linkage.{HasMoreSources, sourced}
use Rattle.omf_placement.proofs.several.sources.SourceTable.add_record.Goals as goal

pub returns-in-Some : goal.returns-in-Some
returns-in-Some c =
    subst (λ xs. OnOk c.add_items.result (HasMoreSources c.args.self.now c.add_items.new.self xs))
    (sym (ap sourced c.in-Some.is) ∙ c.sources_of.ensures) c.add_items.ensures

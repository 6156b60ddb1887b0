use Rattle.std.proofs.Common.{[], ◌∷◌, ◌∙◌, ap, sym, subst}
use Rattle.omf_check.specs.Inner.Contents.{data_seen}
use Rattle.omf_reloc.specs.Inner.Measuring.{CanMeasure}
use Rattle.omf_c.specs.Data.{contents_rows}
use Rattle.omf_c.specs.declared.rows.DataRow.{DataRow}
use Rattle.omf_c.proofs.data.row_of.Goals as goal

pub iterated_row-requires-clause-expands : goal.iterated_row-requires-clause-expands
iterated_row-requires-clause-expands c = subst (λ d. CanMeasure (data_seen d)) c.in-Iterated.is c.requires.measured

pub returns-in-Iterated : goal.returns-in-Iterated
returns-in-Iterated c =
    ap (λ (e : DataRow). e ∷ []) c.iterated_row.ensures
    ∙ ap (λ d. contents_rows c.args.place (data_seen d).kind (data_seen d).contents) (sym c.in-Iterated.is)

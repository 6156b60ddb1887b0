use Rattle.std.proofs.Common.{◌∙◌, ap, false}
use Rattle.std.specs.Prelude.{unwrap_or}
use Rattle.omf_check.specs.Module.{records_in}
use Rattle.omf_check.specs.Tables.{entry}
use Rattle.omf_check.specs.WellFormed.{recs}
use Rattle.omf_linking.specs.Locator.KeyForms.{owns}
use Rattle.omf_reloc.specs.Reach.{entries}
use Rattle.omf_linking.specs.declared.locator.forms.KeyForm.TheVariants.{Name}
use Rattle.omf_linking.proofs.KeyLaws.{made-entry}
use Rattle.omf_linking.proofs.locator.forms.Keys.of.Goals as goal

pub returns : goal.returns
returns c =
    let m = recs (records_in c.args.«module».now.bytes) in
    record {
      names = λ i low high. ap (λ xs. unwrap_or (entry xs i) false) c.in_ok-by_name.ensures ∙ made-entry (owns m c.args.kind Name) (entries m c.args.kind) i low high;
      classes = c.in_ok-by_class.ensures;
    }

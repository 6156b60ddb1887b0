use Rattle.std.proofs.Common.{◌∙◌, ap, sym, false}
use Rattle.std.specs.Prelude.{unwrap_or}
use Rattle.omf_check.specs.Module.{records_in}
use Rattle.omf_check.specs.Tables.{entry}
use Rattle.omf_check.specs.WellFormed.{recs}
use Rattle.omf_linking.specs.Locator.KeyForms.{owns}
use Rattle.omf_reloc.specs.Reach.{entries}
use Rattle.omf_linking.specs.declared.locator.forms.KeyForm.TheVariants.{OfClass}
use Rattle.omf_linking.proofs.KeyLaws.{made-entry, no-entry, no-external-class, no-group-class}
use Rattle.omf_linking.proofs.locator.forms.owned_classes.Goals as goal

pub returns-in_ok-owned-in-Segment : goal.returns-in_ok-owned-in-Segment
returns-in_ok-owned-in-Segment c = λ i low high.
    let m = recs (records_in c.args.«module».now.bytes) in
    ap (λ xs. unwrap_or (entry xs i) false) c.in_ok-owned-in-Segment.ensures ∙ made-entry (owns m c.args.kind OfClass) (entries m c.args.kind) i low high

pub returns-in-Group : goal.returns-in-Group
returns-in-Group c = λ i low high.
    let m = recs (records_in c.args.«module».now.bytes) in
    ap (λ xs. unwrap_or (entry xs i) false) c.new.ensures.items ∙ no-entry i ∙ sym (ap (λ k. owns m k OfClass i) c.in-Group.is ∙ no-group-class m i)

pub returns-in-External : goal.returns-in-External
returns-in-External c = λ i low high.
    let m = recs (records_in c.args.«module».now.bytes) in
    ap (λ xs. unwrap_or (entry xs i) false) c.new-in-External.ensures.items ∙ no-entry i ∙ sym (ap (λ k. owns m k OfClass i) c.in-External.is ∙ no-external-class m i)

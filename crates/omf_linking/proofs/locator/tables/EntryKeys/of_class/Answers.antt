use Rattle.std.proofs.Common.{◌∙◌, ap, sym}
use Rattle.std.specs.Prelude.{filter}
use Rattle.omf_reloc.specs.Reach.{entries}
use Rattle.omf_reloc.specs.declared.fault.Kind.TheVariants.{External, Group, Segment}
use Rattle.omf_linking.specs.Inner.KeyTables.{class_text, is_text}
use Rattle.omf_linking.specs.Locator.Keys.{count_from, entry_named, the_one}
use Rattle.omf_linking.specs.Locator.LinkEntries.{OfClass}
use Rattle.omf_linking.proofs.KeyTableLaws.{classes-agree, none-passes}
use Rattle.omf_linking.proofs.locator.tables.EntryKeys.of_class.Goals as goal

pub returns-in_ok-text-in-Segment : goal.returns-in_ok-text-in-Segment
returns-in_ok-text-in-Segment c = λ m h.
    let is = count_from 1 (entries m Segment) in
    c.named.ensures (class_text m) is h.classes_are ∙ ap (λ t. the_one (filter (λ i. is_text t (class_text m i)) is)) (c.deref.ensures.value ∙ c.in_ok-text-in-Segment.ensures)
    ∙ classes-agree m c.args.name.now c.args.class.now is ∙ ap (λ k. entry_named m k (OfClass c.args.name.now c.args.class.now)) (sym c.in-Segment.is)

pub returns-in-Group : goal.returns-in-Group
returns-in-Group c = λ m h. sym (ap (λ k. entry_named m k (OfClass c.args.name.now c.args.class.now)) c.in-Group.is ∙ none-passes (count_from 1 (entries m Group)))

pub returns-in-External : goal.returns-in-External
returns-in-External c = λ m h. sym (ap (λ k. entry_named m k (OfClass c.args.name.now c.args.class.now)) c.in-External.is ∙ none-passes (count_from 1 (entries m External)))

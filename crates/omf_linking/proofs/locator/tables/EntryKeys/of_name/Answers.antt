use Rattle.std.proofs.Common.{◌∙◌, ap, sym}
use Rattle.omf_reloc.specs.Reach.{entries}
use Rattle.omf_reloc.specs.declared.fault.Kind.TheVariants.{External, Group, Segment}
use Rattle.omf_linking.specs.Inner.KeyTables.{name_text}
use Rattle.omf_linking.specs.Locator.Keys.{count_from, entry_named}
use Rattle.omf_linking.specs.Locator.LinkEntries.{Named}
use Rattle.omf_linking.proofs.KeyTableLaws.{names-agree}
use Rattle.omf_linking.proofs.locator.tables.EntryKeys.of_name.Goals as goal

pub returns-in-Segment : goal.returns-in-Segment
returns-in-Segment c = λ m h.
    let is = count_from 1 (entries m Segment) in
    c.named.ensures (name_text m Segment) is h.segments_are ∙ names-agree m Segment c.args.name.now is ∙ ap (λ k. entry_named m k (Named c.args.name.now)) (sym c.in-Segment.is)

pub returns-in-Group : goal.returns-in-Group
returns-in-Group c = λ m h.
    let is = count_from 1 (entries m Group) in
    c.named-in-Group.ensures (name_text m Group) is h.groups_are ∙ names-agree m Group c.args.name.now is ∙ ap (λ k. entry_named m k (Named c.args.name.now)) (sym c.in-Group.is)

pub returns-in-External : goal.returns-in-External
returns-in-External c = λ m h.
    let is = count_from 1 (entries m External) in
    c.named-in-External.ensures (name_text m External) is h.externals_are ∙ names-agree m External c.args.name.now is ∙ ap (λ k. entry_named m k (Named c.args.name.now)) (sym c.in-External.is)

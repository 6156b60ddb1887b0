use Rattle.std.proofs.Common.{◌∙◌, ap}
use Rattle.omf_check.specs.Module.{records_in}
use Rattle.omf_placement.specs.Inner.Linkage.{IsSourceTable, record_sources}
use Rattle.omf_placement.proofs.Filling.{fill-start, fill-more, fill-end}
use Rattle.omf_placement.proofs.SourceLaws.{listed_sources, listed-sources}
use Rattle.omf_placement.proofs.several.sources.SourceTable.add_module.Goals as goal

pub loop-rec-init : goal.loop-rec-init
loop-rec-init c =
    let j = c.args.number in
    let local = c.args.local in
    fill-start IsSourceTable c.args.self.now _ _ (ap (listed_sources local j) (c.into_iter-rec-iterator.ensures.into_iter_gives ∙ c.undecoded-rec-items.ensures.listed) ∙ listed-sources local j 0 0 (records_in c.args.module.now.bytes))

pub loop-rec-preserved : goal.loop-rec-preserved
loop-rec-preserved c =
    let j = c.args.number in
    let local = c.args.local in
    fill-more IsSourceTable c.args.self.now c.loop-rec.self c.add_record.new.self (record_sources local j c.in-Some.rec.kind c.in-Some.rec.contents) (listed_sources local j c.loop-rec.rec-iterator) _ _
    (ap (listed_sources local j) c.in-Some.ensures.steps) c.in_ok-add_record.ensures c.loop-rec.invariant

pub returns-clause-more : goal.returns-clause-more
returns-clause-more c = fill-end IsSourceTable c.args.self.now c.loop-rec.self _ _ (ap (listed_sources c.args.local c.args.number) c.in-None.ensures.steps.0) c.loop-rec.invariant

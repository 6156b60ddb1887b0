use Rattle.std.proofs.Common.{◌∙◌, ap}
use Rattle.omf_check.specs.Module.{records_in}
use Rattle.omf_map.specs.Inner.PublicAddresses.{IsTable}
use Rattle.omf_map.specs.Addresses.{publics_asked}
use Rattle.omf_placement.proofs.Filling.{fill-start, fill-more, fill-end}
use Rattle.omf_map.proofs.MapLaws.{listed_publics, listed-publics}
use Rattle.omf_map.proofs.publics.PublicAddresses.add_module.Goals as goal

pub loop-rec-init : goal.loop-rec-init
loop-rec-init c =
    let segments = c.args.segments.now in
    let local = c.args.local in
    fill-start IsTable c.args.self.now.by_name _ _
    (ap (listed_publics local segments) (c.into_iter-rec-iterator.ensures.into_iter_gives ∙ c.undecoded-rec-items.ensures.listed) ∙ listed-publics local segments 0 0 (records_in c.args.«module».now.bytes))

pub loop-rec-preserved : goal.loop-rec-preserved
loop-rec-preserved c =
    let segments = c.args.segments.now in
    let local = c.args.local in
    fill-more IsTable c.args.self.now.by_name c.loop-rec.self.by_name c.add_record.new.self.by_name (publics_asked local segments c.in-Some.rec.kind c.in-Some.rec.contents) (listed_publics local segments c.loop-rec.rec-iterator) _ _
    (ap (listed_publics local segments) c.in-Some.ensures.steps) c.in_ok-add_record.ensures c.loop-rec.invariant

pub returns : goal.returns
returns c = fill-end IsTable c.args.self.now.by_name c.loop-rec.self.by_name _ _ (ap (listed_publics c.args.local c.args.segments.now) c.in-None.ensures.steps.0) c.loop-rec.invariant

use Rattle.std.proofs.Common.{◌∙◌, ap, List}
use Rattle.std.specs.Prelude.{map}
use Rattle.omf_frame.specs.declared.fault.Place.{Place}
use Rattle.omf_records.specs.Values.{Rec}
use Rattle.omf_check.specs.Module.{records_in}
use Rattle.omf_check.specs.WellFormed.{recs}
use Rattle.omf_reloc.proofs.MeasureLaws.{measure-first, measure-last, measure-can, measure-next}
use Rattle.omf_check.proofs.ListedLaws.{records_listed}
use Rattle.omf_reloc.proofs.measuring.extents.Goals as goal

abbrev without_places : List (Place × Rec) → List Rec
without_places xs = map (λ x. x.1) xs

pub loop-record-init : goal.loop-record-init
loop-record-init c =
    let raws = records_in c.args.module.now.bytes in
    let u = c.undecoded-record-items.ensures in
    measure-first (recs raws) (without_places c.into_iter-record-iterator.result) c.new-extents.result.items u.holds
    (ap without_places (c.into_iter-record-iterator.ensures.into_iter_gives ∙ u.listed) ∙ records_listed 0 0 raws) c.new-extents.ensures.items

pub push_extent-requires : goal.push_extent-requires
push_extent-requires c =
    let l = c.loop-record in
    measure-can (recs (records_in c.args.module.now.bytes)) (without_places l.record-iterator) l.extents.items l.invariant
    c.in-Some.record (without_places c.next.new.self) (ap without_places c.in-Some.ensures.steps)

pub loop-record-preserved : goal.loop-record-preserved
loop-record-preserved c =
    let l = c.loop-record in
    measure-next (recs (records_in c.args.module.now.bytes)) (without_places l.record-iterator) l.extents.items l.invariant
    c.in-Some.record (without_places c.next.new.self) (ap without_places c.in-Some.ensures.steps) c.push_extent.new.extents.items c.in_ok-push_extent.ensures

pub returns-clause-listed : goal.returns-clause-listed
returns-clause-listed c =
    let l = c.loop-record in
    measure-last (recs (records_in c.args.module.now.bytes)) (without_places l.record-iterator) l.extents.items l.invariant (ap without_places c.in-None.ensures.steps.0)

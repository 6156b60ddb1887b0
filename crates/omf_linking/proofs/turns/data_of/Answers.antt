use Rattle.std.proofs.Common.{◌∙◌, ap, subst, sym, ◌++◌}
use Rattle.std.specs.Prelude.{All, flat_map}
use Rattle.std.proofs.lemmas.List.Elements.{All-head, All-tail}
use Rattle.omf_check.specs.Module.{records_in}
use Rattle.omf_check.specs.WellFormed.{recs}
use Rattle.omf_records.specs.Inner.Seen.{rec_seen}
use Rattle.omf_reloc.proofs.MeasureLaws.{all-measure}
use Rattle.omf_check.proofs.ListedLaws.{records_listed}
use Rattle.omf_reloc.specs.Inner.Measuring.{CanMeasure, measured}
use Rattle.omf_linking.proofs.TurnLaws.{without_places}
use Rattle.omf_linking.proofs.SegmentsLaws.{more_given, all_given}
use Rattle.omf_linking.proofs.turns.data_of.Goals as goal

pub loop-place-init : goal.loop-place-init
loop-place-init c =
    let m = recs (records_in c.args.«module».now.bytes) in
    let r = c.records-place-items in
    let e = ap without_places (c.into_iter-place-iterator.ensures.into_iter_gives ∙ r.ensures.listed) ∙ records_listed 0 0 (records_in c.args.«module».now.bytes) in
    record {
      can = subst (All CanMeasure) (sym e) (all-measure m r.ensures.holds);
      same = ap (λ xs. xs ++ flat_map measured (without_places c.into_iter-place-iterator.result)) c.new-extents.ensures.items ∙ ap (flat_map measured) e;
    }

pub push_data-requires : goal.push_data-requires
push_data-requires c =
    All-head CanMeasure (rec_seen c.in-Some.rec) (without_places c.next.new.self) (subst (λ xs. All CanMeasure (without_places xs)) c.in-Some.ensures.steps c.loop-place.invariant.can)

pub loop-place-preserved : goal.loop-place-preserved
loop-place-preserved c =
    let e = ap without_places c.in-Some.ensures.steps in
    record {
      can = All-tail CanMeasure (rec_seen c.in-Some.rec) (without_places c.next.new.self) (subst (All CanMeasure) e c.loop-place.invariant.can);
      same = more_given _ _ (measured (rec_seen c.in-Some.rec)) _ _ _ c.in_ok-push_data.ensures (ap (flat_map measured) e) c.loop-place.invariant.same;
    }

pub returns-clause-data : goal.returns-clause-data
returns-clause-data c = all_given _ _ _ (ap (λ xs. flat_map measured (without_places xs)) c.in-None.ensures.steps.0) c.loop-place.invariant.same

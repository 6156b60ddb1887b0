use Rattle.std.proofs.Common.{◌∙◌, ap, max, sym, subst}
use Rattle.std.specs.Prelude.{All, flat_map, fold}
use Rattle.std.proofs.lemmas.List.Elements.{All-head, All-tail}
use Rattle.omf_check.specs.Module.{records_in}
use Rattle.omf_check.specs.WellFormed.{recs}
use Rattle.omf_reloc.proofs.MeasureLaws.{all-fit, all-measure}
use Rattle.omf_check.proofs.ListedLaws.{records_listed}
use Rattle.omf_output.specs.Inner.Laying.{CanEnd, record_ends}
use Rattle.omf_output.proofs.FitLaws.{all-can-end, max-record, without_places_of}
use Rattle.omf_output.proofs.exe.laying.with_end.Goals as goal

pub loop-place-init : goal.loop-place-init
loop-place-init c =
    let m = recs (records_in c.args.module.now.bytes) in
    let pl = c.args.placement.now in
    let r = c.undecoded-place-items in
    let e = ap without_places_of (c.into_iter-place-iterator.ensures.into_iter_gives ∙ r.ensures.listed) ∙ records_listed 0 0 (records_in c.args.module.now.bytes) in
    record {
      can = subst (All CanEnd) (sym e) (all-can-end m (all-measure m r.ensures.holds) (all-fit pl m r.ensures.holds));
      same = ap (λ l. fold max c.args.before (flat_map (record_ends pl) l)) e;
    }

pub record_end-requires : goal.record_end-requires
record_end-requires c =
    All-head CanEnd c.in-Some.rec (without_places_of c.next.new.self) (subst (λ xs. All CanEnd (without_places_of xs)) c.in-Some.ensures.steps c.loop-place.invariant.can)

pub loop-place-preserved : goal.loop-place-preserved
loop-place-preserved c =
    let pl = c.args.placement.now in
    let r = c.in-Some.rec in
    let rest = without_places_of c.next.new.self in
    let e = ap without_places_of c.in-Some.ensures.steps in
    record {
      can = All-tail CanEnd r rest (subst (All CanEnd) e c.loop-place.invariant.can);
      same = max-record pl r rest c.loop-place.end _ _ c.record_end.ensures c.max-end.ensures ∙ ap (λ l. fold max c.loop-place.end (flat_map (record_ends pl) l)) (sym e) ∙ c.loop-place.invariant.same;
    }

use Rattle.std.proofs.Common.{◌∙◌, ap, sym, subst}
use Rattle.std.specs.Prelude.{All}
use Rattle.std.proofs.lemmas.List.Elements.{All-head, All-tail}
use Rattle.omf_check.specs.Module.{records_in}
use Rattle.omf_check.specs.WellFormed.{recs}
use Rattle.omf_reloc.proofs.MeasureLaws.{all-fit, all-measure}
use Rattle.omf_check.proofs.ListedLaws.{records_listed}
use Rattle.omf_output.specs.Inner.Laying.{CanEnd}
use Rattle.omf_output.specs.Exe.Com.{first_low}
use Rattle.omf_output.proofs.ComLaws.{low-found, not-low}
use Rattle.omf_output.proofs.FitLaws.{all-can-end, without_places_of}
use Rattle.omf_output.proofs.exe.com_parts.first_low.Goals as goal

pub loop-place-init : goal.loop-place-init
loop-place-init c =
    let m = recs (records_in c.args.module.now.bytes) in
    let pl = c.args.placement.now in
    let r = c.undecoded-place-items in
    let given = c.into_iter-place-iterator.ensures.into_iter_gives ∙ r.ensures.listed in
    let e = ap without_places_of given ∙ records_listed 0 0 (records_in c.args.module.now.bytes) in
    record {
      can = subst (All CanEnd) (sym e) (all-can-end m (all-measure m r.ensures.holds) (all-fit pl m r.ensures.holds));
      same = ap (first_low pl) given;
    }

pub has_low_data-requires : goal.has_low_data-requires
has_low_data-requires c =
    All-head CanEnd c.in-Some.rec (without_places_of c.next.new.self) (subst (λ xs. All CanEnd (without_places_of xs)) c.in-Some.ensures.steps c.loop-place.invariant.can)

pub returns-then-has_low_data : goal.returns-then-has_low_data
returns-then-has_low_data c =
    low-found c.args.placement.now (c.in-Some.place, c.in-Some.rec) c.loop-place.place-iterator c.next.new.self c.has_low_data.result _ c.in-Some.ensures.steps c.has_low_data.ensures
    c.if-has_low_data.true c.loop-place.invariant.same

pub loop-place-preserved : goal.loop-place-preserved
loop-place-preserved c =
    let r = c.in-Some.rec in
    let rest = c.next.new.self in
    record {
      can = All-tail CanEnd r (without_places_of rest) (subst (λ xs. All CanEnd (without_places_of xs)) c.in-Some.ensures.steps c.loop-place.invariant.can);
      same = not-low c.args.placement.now (c.in-Some.place, r) c.loop-place.place-iterator rest c.has_low_data.result _ c.in-Some.ensures.steps c.has_low_data.ensures c.if-has_low_data.false
          c.loop-place.invariant.same;
    }

pub returns : goal.returns
returns c = sym (ap (first_low c.args.placement.now) c.in-None.ensures.steps.0) ∙ c.loop-place.invariant.same

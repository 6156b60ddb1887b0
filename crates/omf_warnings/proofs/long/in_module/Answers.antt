use Rattle.std.proofs.Common.{◌≡◌, ◌+◌, ◌∙◌, ap, sym, arith, refl, drop, []}
use Rattle.std.specs.Prelude.{option_and_then}
use Rattle.std.specs.List.{enumerate_from}
use Rattle.omf_check.specs.Module.{records_in}
use Rattle.omf_check.specs.Tables.{segments}
use Rattle.omf_check.specs.WellFormed.{recs}
use Rattle.omf_placement.specs.Derive.{PlacedModule}
use Rattle.omf_check.specs.declared.segment.SegInfo.{SegInfo}
use Rattle.omf_warnings.specs.Long.{long}
use Rattle.omf_placement.proofs.StepLaws.{none_left}
use Rattle.omf_warnings.proofs.WideLaws.{first_found, first_later, first_none}
use Rattle.omf_output.proofs.Steps.{entry_there}
use Rattle.omf_warnings.proofs.long.in_module.Goals as goal

pub loop-before-init : goal.loop-before-init
loop-before-init c = record { left = refl; end = c.segments-before-end.ensures.count }

pub returns-in-Some : goal.returns-in-Some
returns-in-Some c =
    let j = c.args.number in
    let m : PlacedModule = (recs (records_in c.args.module.now.bytes), c.args.placement.now) in
    let k = c.loop-before.before in
    let end = c.loop-before.invariant.end in
    let g = entry_there (segments m.0) k (omega (arith, c.loop-before-test.true, end)) in
    let same = c.long.ensures ∙ ap (option_and_then (λ (x : SegInfo). long j m (k + 1, x))) g.1 in
    first_found (long j m) (enumerate_from (k + 1) (drop k (segments m.0))) (k + 1, g.0) (enumerate_from (k + 1 + 1) (drop (k + 1) (segments m.0))) c.in-Some.found _
    (ap (enumerate_from (k + 1)) g.2) (sym same ∙ c.in-Some.is) c.loop-before.invariant.left

pub loop-before-preserved : goal.loop-before-preserved
loop-before-preserved c =
    let j = c.args.number in
    let m : PlacedModule = (recs (records_in c.args.module.now.bytes), c.args.placement.now) in
    let k = c.loop-before.before in
    let end = c.loop-before.invariant.end in
    let g = entry_there (segments m.0) k (omega (arith, c.loop-before-test.true, end)) in
    let same = c.long.ensures ∙ ap (option_and_then (λ (x : SegInfo). long j m (k + 1, x))) g.1 in
    record {
      left = first_later (long j m) (enumerate_from (k + 1) (drop k (segments m.0))) (k + 1, g.0) (enumerate_from (k + 1 + 1) (drop (k + 1) (segments m.0))) _
          (ap (enumerate_from (k + 1)) g.2) (sym same ∙ c.in_default.is) c.loop-before.invariant.left;
      end = c.loop-before.invariant.end;
    }

pub returns : goal.returns
returns c =
    let j = c.args.number in
    let m : PlacedModule = (recs (records_in c.args.module.now.bytes), c.args.placement.now) in
    let k = c.loop-before.before in
    let end = c.loop-before.invariant.end in
    let none : drop k (segments m.0) ≡ [] = none_left (segments m.0) k (omega (arith, c.loop-before-test.false, end)) in
    first_none (long j m) (enumerate_from (k + 1) (drop k (segments m.0))) _ (ap (enumerate_from (k + 1)) none) c.loop-before.invariant.left

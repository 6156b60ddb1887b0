use Rattle.std.proofs.Common.{◌≡◌, ◌+◌, ◌∙◌, ap, sym, arith, refl, drop, []}
use Rattle.std.specs.Prelude.{option_and_then}
use Rattle.std.specs.List.{enumerate_from}
use Rattle.omf_check.specs.Module.{records_in}
use Rattle.omf_check.specs.Tables.{groups}
use Rattle.omf_check.specs.WellFormed.{recs}
use Rattle.omf_placement.specs.Derive.{PlacedModule}
use Rattle.omf_records.specs.Values.{GroupItem}
use Rattle.omf_warnings.specs.Wide.{wide_in_group}
use Rattle.omf_placement.proofs.StepLaws.{none_left}
use Rattle.omf_warnings.proofs.WideLaws.{first_found, first_later, first_none}
use Rattle.omf_output.proofs.Steps.{entry_there}
use Rattle.omf_warnings.proofs.wide.in_module.Goals as goal

pub loop-before-init : goal.loop-before-init
loop-before-init c = record { left = refl; end = c.groups-before-end.ensures.count }

pub returns-in-Some : goal.returns-in-Some
returns-in-Some c =
    let p = c.args.part.now in
    let m : PlacedModule = (recs (records_in p.«module».now.bytes), p.placement.now) in
    let k = c.loop-before.before in
    let end = c.loop-before.invariant.end in
    let g = entry_there (groups m.0) k (omega (arith, c.loop-before-test.true, end)) in
    let same = c.in_group.ensures ∙ ap (option_and_then (λ (x : GroupItem). wide_in_group p.number m (k + 1, x))) g.1 in
    first_found (wide_in_group p.number m) (enumerate_from (k + 1) (drop k (groups m.0))) (k + 1, g.0) (enumerate_from (k + 1 + 1) (drop (k + 1) (groups m.0))) c.in-Some.found _
    (ap (enumerate_from (k + 1)) g.2) (sym same ∙ c.in-Some.is) c.loop-before.invariant.left

pub loop-before-preserved : goal.loop-before-preserved
loop-before-preserved c =
    let p = c.args.part.now in
    let m : PlacedModule = (recs (records_in p.«module».now.bytes), p.placement.now) in
    let k = c.loop-before.before in
    let end = c.loop-before.invariant.end in
    let g = entry_there (groups m.0) k (omega (arith, c.loop-before-test.true, end)) in
    let same = c.in_group.ensures ∙ ap (option_and_then (λ (x : GroupItem). wide_in_group p.number m (k + 1, x))) g.1 in
    record {
      left = first_later (wide_in_group p.number m) (enumerate_from (k + 1) (drop k (groups m.0))) (k + 1, g.0) (enumerate_from (k + 1 + 1) (drop (k + 1) (groups m.0))) _
          (ap (enumerate_from (k + 1)) g.2) (sym same ∙ c.in_default.is) c.loop-before.invariant.left;
      end = c.loop-before.invariant.end;
    }

pub returns : goal.returns
returns c =
    let p = c.args.part.now in
    let m : PlacedModule = (recs (records_in p.«module».now.bytes), p.placement.now) in
    let k = c.loop-before.before in
    let end = c.loop-before.invariant.end in
    let none : drop k (groups m.0) ≡ [] = none_left (groups m.0) k (omega (arith, c.loop-before-test.false, end)) in
    first_none (wide_in_group p.number m) (enumerate_from (k + 1) (drop k (groups m.0))) _ (ap (enumerate_from (k + 1)) none) c.loop-before.invariant.left

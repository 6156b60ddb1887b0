use Rattle.std.proofs.Common.{◌≡◌, ◌+◌, ◌++◌, ◌∙◌, ap, sym, arith, refl, drop, [], append-nil}
use Rattle.std.specs.Prelude.{filter_map, option_and_then, option_to_list}
use Rattle.std.specs.List.{enumerate_from}
use Rattle.omf_check.specs.Module.{records_in}
use Rattle.omf_check.specs.Tables.{segments}
use Rattle.omf_check.specs.WellFormed.{recs}
use Rattle.omf_check.specs.declared.segment.SegInfo.{SegInfo}
use Rattle.omf_placement.specs.Derive.{PlacedModule}
use Rattle.omf_output.specs.Stacks.{interval_at}
use Rattle.omf_output.proofs.StackLaws.{one-more}
use Rattle.omf_placement.proofs.StepLaws.{none_left}
use Rattle.omf_output.proofs.Steps.{entry_there}
use Rattle.omf_output.proofs.stacks.add_module.Goals as goal

pub loop-before-preserved : goal.loop-before-preserved
loop-before-preserved c =
    let j = c.args.number in
    let m : PlacedModule = (recs (records_in c.args.module.now.bytes), c.args.placement.now) in
    let k = c.loop-before.before in
    let end = c.loop-before.invariant.end in
    let g = entry_there (segments m.0) k (omega (arith, c.loop-before-test.true, end)) in
    let same = c.interval_at.ensures ∙ ap (option_and_then (λ (x : SegInfo). interval_at j m (k + 1, x))) g.1 in
    record {
      left = ap (λ l. l ++ filter_map (interval_at j m) (enumerate_from (k + 1 + 1) (drop (k + 1) (segments m.0)))) (c.in_ok-add.ensures ∙ ap (λ o. c.loop-before.intervals.items ++ option_to_list o) same)
          ∙ one-more (interval_at j m) c.loop-before.intervals.items (k + 1, g.0) (enumerate_from (k + 1) (drop k (segments m.0))) (enumerate_from (k + 1 + 1) (drop (k + 1) (segments m.0))) _
          (ap (enumerate_from (k + 1)) g.2) c.loop-before.invariant.left;
      end = end;
    }

pub returns : goal.returns
returns c =
    let j = c.args.number in
    let m : PlacedModule = (recs (records_in c.args.module.now.bytes), c.args.placement.now) in
    let k = c.loop-before.before in
    let end = c.loop-before.invariant.end in
    let none : drop k (segments m.0) ≡ [] = none_left (segments m.0) k (omega (arith, c.loop-before-test.false, end)) in
    sym (append-nil c.loop-before.intervals.items) ∙ sym (ap (λ l. c.loop-before.intervals.items ++ filter_map (interval_at j m) (enumerate_from (k + 1) l)) none) ∙ c.loop-before.invariant.left

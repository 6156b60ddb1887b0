use Rattle.std.proofs.Common.{◌+◌, ap, sym, ◌∙◌, arith, drop}
use Rattle.std.specs.Prelude.{map}
use Rattle.omf_layout.specs.Layout.{and_then_more}
use Rattle.omf_layout.specs.Several.Laying.{run_laid, runs_laid}
use Rattle.omf_layout.proofs.SeveralLaws.LayingLaws.{then-after, next-run}
use Rattle.omf_layout.proofs.several.arranging.lay_portions.Goals as goal

pub loop-run-preserved : goal.loop-run-preserved
loop-run-preserved c =
    let frames = c.args.frames in
    let rs = c.deref-run-items.result.now in
    let i = c.loop-run.run-index in
    let r = c.run-item.result in
    let before = c.loop-run.lying.items in
    record {
      same = sym (then-after before c.lay_run.new.lying.items c.in_ok-free.free (run_laid frames c.loop-run.free r.items) (λ after. runs_laid frames after (map (λ v. v.items) (drop (i + 1) rs)))
          (ap (λ xs. and_then_more before (run_laid frames c.loop-run.free xs)) (sym c.deref.ensures.value) ∙ c.in_ok-free.ensures.answer))
          ∙ ap (λ xs. and_then_more before (runs_laid frames c.loop-run.free xs)) (sym (next-run rs i r c.run-item.is c.loop-run-test.true)) ∙ c.loop-run.invariant.same;
      low = c.in_ok-free.ensures.low;
      from = omega (arith, c.loop-run.invariant.from, c.in_ok-free.ensures.from);
    }

use Rattle.std.proofs.Common.{◌≡◌, ◌<◌, ◌+◌, ◌-◌, ◌∙◌, arith}
use Rattle.std.specs.Prelude.{flat_map, map}
use Rattle.std.specs.List.{range_with_len}
use Rattle.omf_image.specs.Inner.Joined.{runs_of}
use Rattle.omf_image.specs.Overlay.{byte_at}
use Rattle.omf_c.specs.Runs.{bytes_over, run_row}
use Rattle.omf_c.proofs.ImageLaws.{next_segment}
use Rattle.omf_c.proofs.RowLaws.{rows_due}
use Rattle.omf_c.proofs.runs.shown_of.Goals as goal

pub loop-before-preserved : goal.loop-before-preserved
loop-before-preserved c =
    let image = c.args.image.now in
    let before = c.loop-before.before in
    let low : before < c.args.segments = omega arith in
    let next = next_segment before c.args.segments low in
    record {
      runs = rows_due (λ s. map (run_row s) (runs_of image s)) (before + 1) (range_with_len (before + 1) (c.args.segments - before)) _ c.loop-before.runs.items _ next c.in_ok-add_runs.ensures.runs ∙ c.loop-before.invariant.runs;
      bytes = rows_due (λ s. flat_map (bytes_over (byte_at image s)) (runs_of image s)) (before + 1) (range_with_len (before + 1) (c.args.segments - before)) _ c.loop-before.laid.items _ next c.in_ok-add_runs.ensures.bytes ∙ c.loop-before.invariant.bytes;
    }

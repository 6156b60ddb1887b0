use Rattle.std.proofs.Common.{◌≡◌, ℕ, ◌+◌, List, ◌++◌, [], ◌∷◌, sym, ap, ◌∙◌, arith, append-nil, drop}
use Rattle.std.specs.Prelude.{flat_map, map}
use Rattle.omf_image.specs.Inner.Joined.{runs_of}
use Rattle.omf_image.specs.Overlay.{byte_at, spanned}
use Rattle.omf_image.specs.declared.run.Run.{Run}
use Rattle.omf_image.proofs.ShownLaws.{none_left, number_fits, number_low, run_next}
use Rattle.omf_c.specs.Runs.{bytes_over, run_row}
use Rattle.omf_c.proofs.ImageLaws.{bytes_are, row_due}
use Rattle.omf_c.proofs.RowLaws.{rows_due}
use Rattle.omf_c.proofs.runs.add_runs.Goals as goal

pub overflow_add-k : goal.overflow_add-k
overflow_add-k c =
    let bounds = number_fits c.args.image.now c.args.segment c.loop-first.k c.in-Some.first c.in-Some.bytes.now c.in-Some.ensures in
    omega (arith, bounds)

pub loop-first-smaller : goal.loop-first-smaller
loop-first-smaller c =
    let bounds = number_low c.args.image.now c.args.segment c.loop-first.k c.in-Some.first c.in-Some.bytes.now c.in-Some.ensures in
    omega (arith, bounds)

pub loop-first-preserved : goal.loop-first-preserved
loop-first-preserved c =
    let image = c.args.image.now in
    let segment = c.args.segment in
    let k = c.loop-first.k in
    let first = c.in-Some.first in
    let bytes = c.in-Some.bytes.now in
    let bounds = number_low image segment k first bytes c.in-Some.ensures in
    let next = run_next image segment k first bytes c.in-Some.ensures in
    let shown = bytes_are (byte_at image segment) first bytes c.in-Some.ensures.1 in
    record {
      within = omega (arith, bounds);
      runs = row_due (run_row segment) (spanned first bytes) (drop k (runs_of image segment)) (drop (k + 1) (runs_of image segment)) c.loop-first.runs.items _ next (c.in_ok-push.ensures.items ∙ ap (λ r. c.loop-first.runs.items ++ r ∷ []) c.run_row.ensures) ∙ c.loop-first.invariant.runs;
      bytes = rows_due (bytes_over (byte_at image segment)) (spanned first bytes) (drop k (runs_of image segment)) (drop (k + 1) (runs_of image segment)) c.loop-first.laid.items _ next
          (c.in_ok-extend_from_slice.ensures.items ∙ ap (λ t. c.loop-first.laid.items ++ t) (sym shown)) ∙ c.loop-first.invariant.bytes;
    }

pub returns-clause-runs : goal.returns-clause-runs
returns-clause-runs c =
    sym (ap (λ (rs : List Run). c.loop-first.runs.items ++ map (run_row c.args.segment) rs) (none_left c.args.image.now c.args.segment c.loop-first.k c.in_default.ensures) ∙ append-nil c.loop-first.runs.items) ∙ c.loop-first.invariant.runs

pub returns-clause-bytes : goal.returns-clause-bytes
returns-clause-bytes c =
    sym (ap (λ (rs : List Run). c.loop-first.laid.items ++ flat_map (bytes_over (byte_at c.args.image.now c.args.segment)) rs) (none_left c.args.image.now c.args.segment c.loop-first.k c.in_default.ensures) ∙ append-nil c.loop-first.laid.items) ∙ c.loop-first.invariant.bytes

use Rattle.std.proofs.Common.{length, subst}
use Rattle.omf_finding.specs.Inner.Shaping.{HasWindows, is_kept}
use Rattle.omf_finding.proofs.WindowLaws.{only-moved, windows-increase, windows-moved}
use Rattle.omf_finding.proofs.windows.Windows.of.Goals as goal

pub returns-clause-windows : goal.returns-clause-windows
returns-clause-windows c =
    let program = c.args.program.now in
    let kept = is_kept c.args.marks.items in
    let windows = c.in_ok-all_windows.field-0.items in
    let sorted = c.ascending-sorted.result.items in
    let moved = c.ascending-sorted.ensures.same in
    let rises = c.ascending-sorted.ensures.rises in
    let only = c.in_ok-all_windows.ensures.only in
    let has = subst (λ ms. HasWindows (is_kept ms) program windows (length program)) c.deref.ensures.value c.in_ok-all_windows.ensures.has in
    record {
      has = windows-moved kept program windows sorted (length program) moved has;
      each = only-moved program windows sorted (length program) moved only;
      increases = windows-increase windows sorted moved rises only.distinct;
      rises = rises;
    }

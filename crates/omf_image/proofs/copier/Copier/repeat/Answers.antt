use Rattle.std.proofs.Common.{◌≡◌, ◌∙◌, ◌≤◌, ◌<◌, ◌+◌, ◌-◌, ◌*◌, ◌++◌, List, ℕ, ap, length, drop, arith, rules}
use Rattle.std.specs.Prelude.{slice_range}
use Rattle.omf_image.specs.Blocks.{repeated}
use Rattle.omf_image.proofs.CopySteps.{moves_then, moves_as, copy_end, copy_part, copies_more}
use Rattle.omf_image.proofs.copier.Copier.repeat.Goals as goal

pub copy-requires : goal.copy-requires
copy-requires c =
    let old : List ℕ = c.args.self.now.out.items in
    let i = c.loop-done.invariant in
    let inside : c.args.from ≤ length old = search rules in
    let size : c.written.result - c.args.from ≡ length old - c.args.from = search rules in
    let within : c.min-more.result ≤ c.loop-done.done = search rules in
    let end = copy_end old c.args.from c.loop-done.done c.min-more.result (c.written.result - c.args.from) inside size i.some within in
    (omega arith, omega (arith, end, ap (λ (z : List ℕ). length z) i.moves.appended, c.loop-done.self.out.ok))

pub loop-done-preserved : goal.loop-done-preserved
loop-done-preserved c =
    let old : List ℕ = c.args.self.now.out.items in
    let i = c.loop-done.invariant in
    let done = c.loop-done.done in
    let more = c.min-more.result in
    let len = c.written.result - c.args.from in
    let inside : c.args.from ≤ length old = search rules in
    let size : len ≡ length old - c.args.from = search rules in
    let within : more ≤ done = search rules in
    let left : more ≤ c.args.count - done = search rules in
    let low : done < c.args.count = search rules in
    let part = ap (λ z. slice_range z c.args.from (c.args.from + more * len)) i.moves.appended ∙ copy_part old c.args.from done more len inside size i.some within in
    record {
      some = omega (arith, i.some);
      within = omega (arith, left, low);
      moves = moves_as (moves_then i.moves c.in_ok-copy.ensures) (omega arith)
          (ap (λ z. repeated (done - 1) (drop c.args.from old) ++ z) part ∙ copies_more old c.args.from done more len inside size i.some within);
    }

use Rattle.std.proofs.Common.{◌≤◌, ◌+◌, ◌^◌, ◌++◌, ◌∙◌, List, length, map, drop, sym, ap, subst, append-nil, arith}
use Rattle.std.specs.Prelude.{All}
use Rattle.omf_frame.specs.Bytes.{AreBytes}
use Rattle.omf_image.specs.Inner.Joined.{runs_of}
use Rattle.omf_image.specs.Overlay.{AreBytesOver, byte_at}
use Rattle.omf_image.specs.declared.run.Run.{Run as Interval}
use Rattle.omf_image.proofs.ShownLaws.{none_left, number_fits, number_low, run_next}
use Rattle.omf_output.specs.declared.rom.run.Run.{Run}
use Rattle.omf_output.specs.Rom.Memory.{interval}
use Rattle.omf_output.proofs.MemoryRuns.{all_more, interval_more}
use Rattle.omf_output.proofs.rom.memory.runs_of.Goals as goal

pub loop-first-smaller : goal.loop-first-smaller
loop-first-smaller c =
    let bounds = number_low c.args.memory.now 0 c.loop-first.k c.in-Some.first c.in-Some.bytes.now c.in-Some.ensures in
    omega (arith, bounds)

pub overflow_add-k : goal.overflow_add-k
overflow_add-k c =
    let bounds = number_fits c.args.memory.now 0 c.loop-first.k c.in-Some.first c.in-Some.bytes.now c.in-Some.ensures in
    omega (arith, bounds)

pub loop-first-preserved : goal.loop-first-preserved
loop-first-preserved c =
    let laid = c.args.memory.now in
    let k = c.loop-first.k in
    let bounds = number_low laid 0 k c.in-Some.first c.in-Some.bytes.now c.in-Some.ensures in
    let next = run_next laid 0 k c.in-Some.first c.in-Some.bytes.now c.in-Some.ensures in
    let added = c.in_ok-add_run.ensures.added in
    let items = c.loop-first.runs.items in
    let over : Run → Type 0 = λ r. AreBytesOver (byte_at laid 0) (interval r) r.bytes.now in
    let bytes : Run → Type 0 = λ r. AreBytes r.bytes.now in
    let low : Run → Type 0 = λ r. r.address + length r.bytes.now ≤ 2 ^ 32 in
    record {
      within = omega (arith, bounds);
      intervals = interval_more items c.add_run.new.runs.items _ (drop k (runs_of laid 0)) (drop (k + 1) (runs_of laid 0)) (runs_of laid 0) added next c.loop-first.invariant.intervals;
      bytes = subst (All over) (sym added) (all_more over items _ c.loop-first.invariant.bytes c.in-Some.ensures.1);
      are = subst (All bytes) (sym added) (all_more bytes items _ c.loop-first.invariant.are c.in_ok-add_run.ensures.bytes);
      below = subst (All low) (sym added) (all_more low items _ c.loop-first.invariant.below c.in-Some.ensures.2);
    }

pub returns-clause-runs : goal.returns-clause-runs
returns-clause-runs c =
    let laid = c.args.memory.now in
    let items = c.loop-first.runs.items in
    let none = none_left laid 0 c.loop-first.k c.in_default.ensures in
    record {
      intervals = sym (append-nil (map interval items)) ∙ ap (λ (rs : List Interval). map interval items ++ rs) (sym none) ∙ c.loop-first.invariant.intervals;
      bytes = c.loop-first.invariant.bytes;
    }

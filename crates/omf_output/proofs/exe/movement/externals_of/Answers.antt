use Rattle.std.proofs.Common.{◌+◌, ◌∙◌, ap, length, arith}
use Rattle.omf_check.specs.Module.{records_in}
use Rattle.omf_check.specs.Tables.{externals}
use Rattle.omf_check.specs.WellFormed.{recs}
use Rattle.omf_placement.specs.Weak.{weak_pairs}
use Rattle.omf_output.specs.Exe.Derived.{default_moving}
use Rattle.omf_output.specs.Inner.Referred.{defined_moving, linked_moving, single_at}
use Rattle.omf_output.proofs.LowLaws.{one-more}
use Rattle.omf_output.proofs.exe.movement.externals_of.Goals as goal

pub loop-before-preserved : goal.loop-before-preserved
loop-before-preserved c =
    let m = recs (records_in c.args.«module».now.bytes) in
    let one = linked_moving c.args.bases.now c.args.linkage.now.links c.args.number (weak_pairs m) in
    record {
      so_far = one-more one c.loop-before.moving.items c.push.new.self.items _ c.moving_of.result c.loop-before.before (length (externals m))
          (omega (arith, c.loop-before-test.true, c.loop-before.invariant.end))
          (c.moving_of.ensures (single_at c.args.bases.now c.args.linkage.now.links c.args.number) (weak_pairs m) c.in_ok-defaults.ensures ∙ ap (defined_moving c.args.bases.now (default_moving (single_at c.args.bases.now c.args.linkage.now.links c.args.number) (weak_pairs m) (c.loop-before.before + 1))) c.definer-definer.ensures)
          c.in_ok-push.ensures.items c.loop-before.invariant.so_far;
      end = c.loop-before.invariant.end;
    }

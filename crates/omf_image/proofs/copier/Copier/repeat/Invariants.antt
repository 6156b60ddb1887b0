use Rattle.std.proofs.Common.{◌≤◌, ◌-◌, drop}
use Rattle.omf_image.specs.Blocks.{repeated}
use Rattle.omf_image.specs.Inner.Copying.{IsMoved}
use Rattle.omf_image.proofs.copier.Copier.repeat.Given as goal

-- the number of copies so far
abbrev pub invariant-loop-done : goal.invariant-loop-done
invariant-loop-done l = record {
  some : 1 ≤ l.done;
  within : l.done ≤ l.count;
  moves : IsMoved l.fn.self.out.items l.fn.self.moved l.self.out.items l.self.moved 0 (repeated (l.done - 1) (drop l.from l.fn.self.out.items));
}

abbrev pub decreases-loop-done : goal.decreases-loop-done
decreases-loop-done l = l.count - l.done

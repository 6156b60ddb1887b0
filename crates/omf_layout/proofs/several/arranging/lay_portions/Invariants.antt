use Rattle.std.proofs.Common.{◌≡◌, ◌≤◌, ◌^◌, drop}
use Rattle.std.specs.Prelude.{map}
use Rattle.omf_layout.specs.Layout.{and_then_more}
use Rattle.omf_layout.specs.Several.Laying.{runs_laid}
use Rattle.omf_layout.specs.Several.Order.{runs_in}
use Rattle.omf_layout.specs.Several.Portions.{with_names}
use Rattle.omf_layout.proofs.several.arranging.lay_portions.Given as goal

-- the runs so far are laid, and the others are laid after them
abbrev pub invariant-loop-run : goal.invariant-loop-run
invariant-loop-run l = record {
  same : and_then_more l.lying.items (runs_laid l.fn.frames l.free (map (λ r. r.items) (drop l.run-index l.run-items))) ≡ runs_laid l.fn.frames l.fn.from (runs_in (map with_names l.fn.portions.items));
  low : l.free ≤ 2 ^ 32;
  from : l.fn.from ≤ l.free;
}
